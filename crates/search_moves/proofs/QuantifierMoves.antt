-- What `pi` and `sigma` come to.
use Rattle.std.proofs.Common.{◌≡◌, ℕ, suc, length, ◌+◌, List, ◌∷◌, map, ap, ap₂, ◌∙◌, arith}
use Rattle.level_terms.specs.Reading.{read}
use Rattle.beta_fragment.specs.Names.{names}
use Rattle.ref_terms.specs.terms.Apply.{apply}
use Rattle.hyp_clause.specs.Hyps.{assumption_in}
use Rattle.ref_terms.specs.search.Formula.{ForAll, Exists}
use Rattle.ref_terms.specs.search.BranchMove.{applied_whole}
use Rattle.ref_terms.specs.search.Instance.{variable_under}
use Rattle.ref_terms.specs.search.Program.{Program}
use Rattle.ref_terms.specs.search.Branch.{Goal, Branch, with_goals}
use Rattle.search_moves.specs.declared.frame.Frame.{Frame}
use Rattle.search_moves.specs.declared.machine.Phase.TheVariants as phase
use Rattle.search_moves.specs.declared.machine.Event.TheVariants as event
use Rattle.search_moves.specs.Reading.{goal_in}
use Rattle.search_moves.specs.Machine.{Machine, branch_of, alternatives_of, rest_of, move_of, IsFirst, HasMoved}
use Rattle.search_moves.proofs.EnterLemmas.{goals-are, first-is, rest-is}
use Rattle.search_moves.proofs.MoveLemmas.{moved}

pub for_all-moved : (p : Program) (old m1 m2 new : Machine) (f g : Frame) (x : ℕ) → IsFirst old f → IsFirst m1 f → branch_of m1 ≡ branch_of old
    → read m1.world.heap g.term.index names ≡ apply (read old.world.heap x names) (names f.depth) → g.depth ≡ f.depth + 1 → g.barrier ≡ f.barrier → g.context ≡ f.context
    → m2.world.heap ≡ m1.world.heap → branch_of m2 ≡ with_goals (rest_of m1 f) (branch_of m1)
    → branch_of new ≡ with_goals (goal_in m2.world.heap g ∷ (branch_of m2).goals) (branch_of m2)
    → alternatives_of p new ≡ alternatives_of p old → new.phase ≡ phase.Running → HasMoved p (move_of p old f (ForAll (read old.world.heap x names))) event.Moved new
for_all-moved p old m1 m2 new f g x first first1 same reads deeper barrier context heap taken put others running =
    let rest : rest_of m1 f ≡ rest_of old f = rest-is m1 f (branch_of old) (goal_in old.world.heap f) (rest_of old f) first1 same (goals-are old f first) in
    let left : branch_of m2 ≡ with_goals (rest_of old f) (branch_of old) = taken ∙ ap₂ (λ (gs : List Goal) (b : Branch). with_goals gs b) rest same in
    let depth : g.depth ≡ suc f.depth = omega (arith, deeper) in
    let term : read m2.world.heap g.term.index names ≡ apply (read old.world.heap x names) (names f.depth) = ap (λ h. read h g.term.index names) heap ∙ reads in
    let same_goal = first-is m1 f (branch_of old) (goal_in old.world.heap f) (rest_of old f) first1 same (goals-are old f first) in
    let assumed : map (assumption_in m2.world.heap) g.context ≡ map (assumption_in old.world.heap) f.context =
    ap₂ (λ h hs. map (assumption_in h) hs) heap context ∙ ap (λ x. x.assumptions) same_goal in
    let goal : goal_in m2.world.heap g ≡ record (goal_in old.world.heap f) { names = suc f.depth; term = apply (read old.world.heap x names) (names f.depth) } =
    λ i. record { names = depth i; assumptions = assumed i; barrier = barrier i; term = term i } in
    moved p new (with_goals (record (goal_in old.world.heap f) { names = suc f.depth; term = apply (read old.world.heap x names) (names f.depth) } ∷ rest_of old f) (branch_of old)) (alternatives_of p old) running
    (put ∙ ap₂ (λ (y : Goal) (b : Branch). with_goals (y ∷ b.goals) b) goal left) others

pub exists-moved : (p : Program) (old m1 m2 new : Machine) (f g : Frame) (x : ℕ) → IsFirst old f → IsFirst m1 f → branch_of m1 ≡ record (branch_of old) { next_var = suc (length old.world.heap.depths) }
    → read m1.world.heap g.term.index names ≡ applied_whole (read old.world.heap x names) (variable_under f.depth (length old.world.heap.depths)) → g.depth ≡ f.depth → g.barrier ≡ f.barrier → g.context ≡ f.context
    → m2.world.heap ≡ m1.world.heap → branch_of m2 ≡ with_goals (rest_of m1 f) (branch_of m1)
    → branch_of new ≡ with_goals (goal_in m2.world.heap g ∷ (branch_of m2).goals) (branch_of m2)
    → alternatives_of p new ≡ alternatives_of p old → new.phase ≡ phase.Running → HasMoved p (move_of p old f (Exists (read old.world.heap x names))) event.Moved new
exists-moved p old m1 m2 new f g x first first1 opened reads deep barrier context heap taken put others running =
    let n = length old.world.heap.depths in
    let body = applied_whole (read old.world.heap x names) (variable_under f.depth n) in
    let rest : rest_of m1 f ≡ rest_of old f = rest-is m1 f (record (branch_of old) { next_var = suc n }) (goal_in old.world.heap f) (rest_of old f) first1 opened (goals-are old f first) in
    let left : branch_of m2 ≡ with_goals (rest_of old f) (record (branch_of old) { next_var = suc n }) = taken ∙ ap₂ (λ (gs : List Goal) (b : Branch). with_goals gs b) rest opened in
    let term : read m2.world.heap g.term.index names ≡ body = ap (λ h. read h g.term.index names) heap ∙ reads in
    let same_goal = first-is m1 f (record (branch_of old) { next_var = suc n }) (goal_in old.world.heap f) (rest_of old f) first1 opened (goals-are old f first) in
    let assumed : map (assumption_in m2.world.heap) g.context ≡ map (assumption_in old.world.heap) f.context =
    ap₂ (λ h hs. map (assumption_in h) hs) heap context ∙ ap (λ x. x.assumptions) same_goal in
    let goal : goal_in m2.world.heap g ≡ record (goal_in old.world.heap f) { term = body } = λ i. record { names = deep i; assumptions = assumed i; barrier = barrier i; term = term i } in
    moved p new (record (branch_of old) { goals = record (goal_in old.world.heap f) { term = body } ∷ rest_of old f; next_var = suc n }) (alternatives_of p old) running
    (put ∙ ap₂ (λ (y : Goal) (b : Branch). with_goals (y ∷ b.goals) b) goal left) others
