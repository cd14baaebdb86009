-- The reading of the present branch.
use Rattle.std.proofs.Common.{◌≡◌, ℕ, List, [], ◌∷◌, map, length, refl, sym, ap, ◌∙◌}
use Rattle.level_terms.specs.Growth.{Grows}
use Rattle.level_terms.specs.Reading.{read}
use Rattle.level_terms.specs.Sound.{IsSound}
use Rattle.level_terms.specs.Valid.{IsValid}
use Rattle.level_terms.proofs.ValidLemmas.{growth_keeps_readings}
use Rattle.beta_fragment.specs.Names.{names}
use Rattle.beta_fragment.specs.HeadForm.{all_read}
use Rattle.level_terms.proofs.ReadLemmas.{valid-below}
use Rattle.beta_fragment.proofs.HeadLemmas.{read-grown_all}
use Rattle.pattern_unify.specs.Answers.{ReadsUnder}
use Rattle.ref_terms.specs.unification.Problem.{Problem}
use Rattle.ref_terms.specs.search.Branch.{bound, bound_goal, bound_constraint, bound_branch}
use Rattle.search_moves.specs.declared.frame.Frame.{Frame}
use Rattle.hyp_clause.proofs.HypLemmas.{hyps-read}
use Rattle.hyp_clause.proofs.LawLemmas.{hyps-bound}
use Rattle.sequent_rules.proofs.KeptLemmas.{Keeps, all-kept, hyps-kept, constraints-kept}
use Rattle.search_moves.specs.World.{World, chain, IsContextAt, IsFine}
use Rattle.search_moves.specs.Moves.{LeavesRest}
use Rattle.suspend.specs.Store.{stored}
use Rattle.search_moves.specs.Reading.{goal_in, constraint_in, firing_of, branch_in}
use Rattle.search_moves.proofs.ConstraintLemmas.{all-bound, constraints-read, constraints-bound, constraints-sequents}
use Rattle.search_moves.proofs.FrameLemmas.{chain-agrees}

map-map : {A B C : Type 0} (x : B → C) (y : A → B) (ts : List A) → map x (map y ts) ≡ map (λ t. x (y t)) ts
map-map x y [] = refl
map-map {A} {B} {C} x y (t ∷ ts) = ap (λ (zs : List C). x (y t) ∷ zs) (map-map x y ts)

pub unified-reads : (w w' : World) (first : ℕ) (q : Problem) → IsFine w first → LeavesRest w w'
    → ReadsUnder w.heap w'.heap q → branch_in w' first ≡ bound_branch q.bindings q.next_var (branch_in w first)
unified-reads w w' first q fine r under =
    let g = w.heap in
    let h = w'.heap in
    let reads : (t d : ℕ) → IsValid g t d → read h t names ≡ bound q.bindings (read g t names) = λ t d v. under.readings t names (valid-below g t d v) in
    let same : (x : Frame) → IsValid g x.term.index x.depth → IsContextAt g x.depth x.context → goal_in h x ≡ bound_goal q.bindings (goal_in g x) = λ x v k.
    let assumed = hyps-bound g h q.bindings x.context reads k.valid in
    λ i. record { names = x.depth; assumptions = assumed i; barrier = x.barrier; term = reads x.term.index x.depth v i } in
    let goals : map (goal_in h) (chain w'.frames first) ≡ map (bound_goal q.bindings) (map (goal_in g) (chain w.frames first)) =
    ap (λ fs. map (goal_in h) (chain fs first)) r.frames
    ∙ chain-agrees g (goal_in h) (λ x. bound_goal q.bindings (goal_in g x)) same w.frames first fine.frames
    ∙ sym (map-map (bound_goal q.bindings) (goal_in g) (chain w.frames first)) in
    let query : all_read h w'.query ≡ map (bound q.bindings) (all_read g w.query) = ap (all_read h) r.query ∙ all-bound g h q.bindings 0 (λ t v. reads t 0 v) w.query fine.query in
    let store : map (constraint_in h) (stored w'.log) ≡ map (bound_constraint q.bindings) (map (constraint_in g) (stored w.log)) =
    ap (map (constraint_in h)) r.store.constraints ∙ constraints-bound g h q.bindings reads (stored w.log) fine.constraints in
    λ i. record { goals = goals i; store = store i; fired = map firing_of (r.store.firings_are i); query = query i; next_var = under.variables i; declared = r.store.additions i; path = r.path i }

pub grown-reads : (w w' : World) (first : ℕ) → IsSound w.heap → IsFine w first → LeavesRest w w'
    → Grows w.heap w'.heap [] [] → branch_in w' first ≡ record (branch_in w first) { next_var = length w'.heap.depths }
grown-reads w w' first sound fine r grows =
    let g = w.heap in
    let h = w'.heap in
    let same : (x : Frame) → IsValid g x.term.index x.depth → IsContextAt g x.depth x.context → goal_in h x ≡ goal_in g x = λ x v k.
    let assumed = hyps-read g h x.context sound grows k.valid in
    λ i. record { names = x.depth; assumptions = assumed i; barrier = x.barrier; term = growth_keeps_readings g h x.term.index names sound grows (valid-below g x.term.index x.depth v) i } in
    let goals : map (goal_in h) (chain w'.frames first) ≡ map (goal_in g) (chain w.frames first) =
    ap (λ fs. map (goal_in h) (chain fs first)) r.frames ∙ chain-agrees g (goal_in h) (goal_in g) same w.frames first fine.frames in
    let query : all_read h w'.query ≡ all_read g w.query = ap (all_read h) r.query ∙ read-grown_all g h 0 sound grows w.query fine.query in
    let store : map (constraint_in h) (stored w'.log) ≡ map (constraint_in g) (stored w.log) =
    ap (map (constraint_in h)) r.store.constraints ∙ constraints-read g h sound grows (stored w.log) fine.constraints in
    λ i. record { goals = goals i; store = store i; fired = map firing_of (r.store.firings_are i); query = query i; next_var = length h.depths; declared = r.store.additions i; path = r.path i }

-- where no variable that was there gets a value
pub kept-reads : (w w' : World) (first : ℕ) → IsFine w first → LeavesRest w w' → Keeps w.heap w'.heap → branch_in w' first ≡ record (branch_in w first) { next_var = length w'.heap.depths }
kept-reads w w' first fine r k =
    let g = w.heap in
    let h = w'.heap in
    let same : (x : Frame) → IsValid g x.term.index x.depth → IsContextAt g x.depth x.context → goal_in h x ≡ goal_in g x = λ x v c.
    let assumed = hyps-kept g h k x.context c.valid in
    λ i. record { names = x.depth; assumptions = assumed i; barrier = x.barrier; term = k.reads x.term.index x.depth v i } in
    let goals : map (goal_in h) (chain w'.frames first) ≡ map (goal_in g) (chain w.frames first) =
    ap (λ fs. map (goal_in h) (chain fs first)) r.frames ∙ chain-agrees g (goal_in h) (goal_in g) same w.frames first fine.frames in
    let query : all_read h w'.query ≡ all_read g w.query = ap (all_read h) r.query ∙ all-kept g h k 0 w.query fine.query in
    let store : map (constraint_in h) (stored w'.log) ≡ map (constraint_in g) (stored w.log) =
    ap (map (constraint_in h)) r.store.constraints ∙ constraints-kept g h k (stored w.log) (constraints-sequents g (stored w.log) fine.constraints) in
    λ i. record { goals = goals i; store = store i; fired = map firing_of (r.store.firings_are i); query = query i; next_var = length h.depths; declared = r.store.additions i; path = r.path i }
