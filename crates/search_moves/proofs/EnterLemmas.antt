-- A clause that is tried on a call: the machine before it, with the clause's nodes, and after its head was unified.
use Rattle.std.proofs.Common.{◌≡◌, ℕ, zero, suc, ◌<◌, Bool, false, List, [], ◌∷◌, ◌++◌, length, map, get_or, slice_get, Option, Some, None, IfSome, unwrap_or, replicate, refl, sym, ap, ap₂, ◌∙◌, arith, subst, append_assoc, append-nil}
use Rattle.std.proofs.lemmas.List.{length-map}
use Rattle.level_terms.specs.declared.node.TermId.{TermId}
use Rattle.level_terms.specs.Graph.{Graph}
use Rattle.level_terms.specs.Growth.{Grows}
use Rattle.level_terms.specs.Reading.{read}
use Rattle.level_terms.specs.Sound.{IsSound}
use Rattle.level_terms.specs.Valid.{IsValid}
use Rattle.level_terms.proofs.ReadLemmas.{valid-below}
use Rattle.beta_fragment.specs.Names.{names}
use Rattle.beta_fragment.specs.HeadForm.{all_read, AllValidAt}
use Rattle.beta_fragment.specs.declared.answer.UnifyStop.{UnifyStop}
use Rattle.beta_fragment.specs.declared.answer.UnifyStop.TheVariants.{Fault, Memory}
use Rattle.beta_fragment.proofs.HeadLemmas.{read-grown_all}
use Rattle.ref_terms.specs.declared.path.Choice.{Choice}
use Rattle.ref_terms.specs.terms.Term.{Term, Head, At, App, Con}
use Rattle.ref_terms.specs.unification.Spine.{args_of, head_of, apply_all}
use Rattle.ref_terms.specs.search.Program.{Program, Clause}
use Rattle.ref_terms.specs.search.State.{Alternative, Candidate, later_clauses}
use Rattle.ref_terms.specs.search.Instance.{ClauseInstance}
use Rattle.ref_terms.specs.search.Candidates.{choice_of, candidate_instance}
use Rattle.ref_terms.specs.search.BranchMove.{with_later}
use Rattle.ref_terms.specs.search.Branch.{Goal, Branch, bound, bound_goal, bound_branch}
use Rattle.ref_terms.specs.search.Resolve.{Fits, Clashes, entered}
use Rattle.search_moves.specs.declared.frame.Frame.{Frame}
use Rattle.search_moves.specs.declared.call.Call.{Call}
use Rattle.search_moves.specs.World.{World, chain, undone, mark_of, IsContextAt, IsFine}
use Rattle.search_moves.specs.declared.frame.Mark.{Mark}
use Rattle.search_moves.specs.declared.frame.Saved.{Saved}
use Rattle.search_moves.specs.declared.frame.Left.TheVariants.{Call as LeftCall}
use Rattle.search_moves.specs.declared.frame.Later.{Later}
use Rattle.search_moves.specs.declared.frame.Later.TheVariants.{Clauses}
use Rattle.ref_terms.specs.declared.sym.Sym.{Sym}
use Rattle.search_moves.specs.Saved.{AllSaved, HasLeft, IsLaterOf, IsCallLeft, Keeps}
use Rattle.search_moves.specs.Reading.{goal_in, branch_in, left_at, saved_in}
use Rattle.search_moves.specs.Moves.{Growing, LeavesRest}
use Rattle.search_moves.specs.Machine.{Machine, branch_of, alternatives_of, rest_of, IsFirst}
use Rattle.search_moves.specs.Instances.{IsHeadMade, ReadAsVariables}
use Rattle.search_moves.specs.Calling.{IsCall, HasInputs, tried_made, tried_here, HasFitted, HasClashed, HasBroken, BreaksSo, IsLeftAfter, LeavesLater, Leaves, left_over, left_out, clauses_from}
use Rattle.search_moves.proofs.CallLemmas.{try-at, entered-bound}
use Rattle.search_moves.proofs.GrowLemmas.{no-notes, first-grown, growing-keeps}
use Rattle.search_moves.proofs.SavedLemmas.{all-kept}
use Rattle.search_moves.proofs.WorldLemmas.{growth-keeps, keeps-trans, undone-now}
use Rattle.search_moves.proofs.HeadLemmas.{nodes-bound}
use Rattle.search_moves.proofs.ReadingLemmas.{grown-reads}

-- the arguments of a head before arguments
spine-args : (xs : List Term) (f a : Term) → args_of (apply_all (App f a) xs) ≡ (args_of f ++ a ∷ []) ++ xs
spine-args [] f a = sym (append-nil (args_of f ++ a ∷ []))
spine-args (x ∷ xs) f a = spine-args xs (App f a) x ∙ append_assoc (args_of f ++ a ∷ []) (x ∷ []) xs

pub applied-args : (h : Head) (xs : List Term) → args_of (apply_all (At h) xs) ≡ xs
applied-args h [] = refl
applied-args h (x ∷ xs) = spine-args xs (At h) x

abbrev first_goal : List Goal → Goal → Goal
first_goal [] d = d
first_goal (x ∷ xs) d = x

abbrev later_goals : List Goal → List Goal
later_goals [] = []
later_goals (x ∷ xs) = xs

-- the first goal and the others are read off the branch
pub goals-are : (m : Machine) (f : Frame) → IsFirst m f → (branch_of m).goals ≡ goal_in m.world.heap f ∷ rest_of m f
goals-are m f h = ap (map (goal_in m.world.heap)) h.goals

pub first-is : (m : Machine) (f : Frame) (b : Branch) (g : Goal) (gs : List Goal) → IsFirst m f → branch_of m ≡ b → b.goals ≡ g ∷ gs → goal_in m.world.heap f ≡ g
first-is m f b g gs h e is = ap (λ xs. first_goal xs g) (sym (goals-are m f h) ∙ ap (λ x. x.goals) e ∙ is)

pub rest-is : (m : Machine) (f : Frame) (b : Branch) (g : Goal) (gs : List Goal) → IsFirst m f → branch_of m ≡ b → b.goals ≡ g ∷ gs → rest_of m f ≡ gs
rest-is m f b g gs h e is = ap later_goals (sym (goals-are m f h) ∙ ap (λ x. x.goals) e ∙ is)

-- the branch in which terms were put in the place of the first goal
abbrev pub with_terms : Branch → Goal → List Goal → (barrier : ℕ) → List Term → Choice → Branch
with_terms b goal rest barrier ts choice = record b { goals = map (λ t. record goal { barrier = barrier; term = t }) ts ++ rest; path = choice ∷ b.path }

-- one of valid nodes
valid-at : (g : Graph) (depth : ℕ) (ts : List TermId) (v : ℕ) → AllValidAt g ts depth → v < length ts → IsValid g (get_or ts v (record { index = 0 })).index depth
valid-at g depth [] v valid l = absurd (omega (arith, l))
valid-at g depth (t ∷ ts) zero valid l = valid.0
valid-at g depth (t ∷ ts) (suc v) valid l = valid-at g depth ts v valid.1 (omega (arith, l))

-- the instance of a clause that the call would make
abbrev pub instance_for : Machine → Call → Candidate → ClauseInstance
instance_for m call c = candidate_instance c call.goal.now.depth (length m.world.heap.depths)

-- the branch that the reference would enter
abbrev pub in_place : Machine → Call → Candidate → Branch
in_place m call c = entered (branch_of m) (goal_in m.world.heap call.goal.now) (rest_of m call.goal.now) (length m.saved) c (instance_for m call c).body

-- the machine has the nodes of the clause's head
pub record HasMade (m0 m1 : Machine) (call : Call) (c : Candidate) (hs : List TermId) : Type 0 where
  pub fine : IsFine m0.world m0.first
  pub sound : IsSound m0.world.heap
  pub is_call : IsCall m0 call
  pub grows : Grows m0.world.heap m1.world.heap [] []
  pub rest : LeavesRest m0.world m1.world
  pub same : m1.first ≡ m0.first
  pub head : IsHeadMade (instance_for m0 call c) call.goal.now.depth m1.world.heap hs

module _ (m0 m1 : Machine) (call : Call) (c : Candidate) (hs : List TermId) (has : HasMade m0 m1 call c hs) where
  args-stay : all_read m1.world.heap call.args.now ≡ all_read m0.world.heap call.args.now
  args-stay = read-grown_all m0.world.heap m1.world.heap call.goal.now.depth has.sound has.grows call.args.now has.is_call.args

  args-are : args_of (goal_in m0.world.heap call.goal.now).term ≡ all_read m1.world.heap call.args.now
  args-are = has.is_call.arguments ∙ sym args-stay

  inputs-are : (modes : Option (List Bool)) → HasInputs call modes → call.inputs.now ≡ unwrap_or modes (replicate (length (args_of (goal_in m0.world.heap call.goal.now).term)) false)
  inputs-are modes inputs =
      inputs ∙ ap (λ n. unwrap_or modes (replicate n false)) (sym (length-map call.args.now (λ t. read m1.world.heap t.index names)) ∙ ap length (sym args-are))

  -- the reference tries the clause by its nodes
  pub tried-by : (modes : Option (List Bool)) → HasInputs call modes → tried_here m0 call.goal.now modes c
      ≡ tried_made m1.world.heap (length m0.world.heap.depths) call.goal.now.depth call.inputs.now hs call.args.now (in_place m0 call c)
  tried-by modes inputs =
      try-at m0.world.heap m1.world.heap modes (branch_of m0) (goal_in m0.world.heap call.goal.now) (rest_of m0 call.goal.now) (length m0.saved) c hs call.inputs.now call.args.now refl args-are (inputs-are modes inputs) has.head

  pub clause-clashes : (modes : Option (List Bool)) → HasInputs call modes → HasClashed (length m0.world.heap.depths) call.goal.now.depth call.inputs.now hs call.args.now m1.world.heap
      → tried_here m0 call.goal.now modes c ≡ Clashes
  clause-clashes modes inputs clash = tried-by modes inputs ∙ clash (in_place m0 call c)

  pub clause-breaks : (modes : Option (List Bool)) → HasInputs call modes → (stop : UnifyStop) → HasBroken (length m0.world.heap.depths) call.goal.now.depth call.inputs.now hs call.args.now m1.world.heap stop
      → BreaksSo (tried_here m0 call.goal.now modes c) stop
  clause-breaks modes inputs (Fault e) b = tried-by modes inputs ∙ b (in_place m0 call c)
  clause-breaks modes inputs Memory b = tt

  made-branch : branch_of m1 ≡ record (branch_of m0) { next_var = length m1.world.heap.depths }
  made-branch = ap (λ n. branch_of (record m1 { first = n })) has.same ∙ grown-reads m0.world m1.world m0.first has.sound has.fine has.rest has.grows

  pub made-first : IsFirst m1 call.goal.now
  made-first = first-grown m0 m1 call.goal.now has.same has.sound (no-notes m0.world.heap m1.world.heap has.grows) has.rest has.is_call.first

  module _ (m2 : Machine) (sound1 : IsSound m1.world.heap) (fits : HasFitted (length m0.world.heap.depths) call.goal.now.depth call.inputs.now hs call.args.now m1 m2)
      (grows2 : Growing m1.world.heap m2.world.heap) (rest2 : LeavesRest m1.world m2.world) (same2 : m2.first ≡ m1.first) where
    pub fitted-first : IsFirst m2 call.goal.now
    fitted-first = first-grown m1 m2 call.goal.now same2 sound1 grows2 rest2 made-first

    goal1 : goal_in m1.world.heap call.goal.now ≡ goal_in m0.world.heap call.goal.now
    goal1 = first-is m1 call.goal.now (record (branch_of m0) { next_var = length m1.world.heap.depths }) (goal_in m0.world.heap call.goal.now) (rest_of m0 call.goal.now) made-first made-branch (goals-are m0 call.goal.now has.is_call.first)

    rest1 : rest_of m1 call.goal.now ≡ rest_of m0 call.goal.now
    rest1 = rest-is m1 call.goal.now (record (branch_of m0) { next_var = length m1.world.heap.depths }) (goal_in m0.world.heap call.goal.now) (rest_of m0 call.goal.now) made-first made-branch (goals-are m0 call.goal.now has.is_call.first)

    bound-goals : (bound_branch fits.made (length m2.world.heap.depths) (branch_of m1)).goals ≡ bound_goal fits.made (goal_in m1.world.heap call.goal.now) ∷ map (bound_goal fits.made) (rest_of m1 call.goal.now)
    bound-goals = ap (map (bound_goal fits.made)) (goals-are m1 call.goal.now made-first)

    goal2 : goal_in m2.world.heap call.goal.now ≡ bound_goal fits.made (goal_in m0.world.heap call.goal.now)
    goal2 =
        first-is m2 call.goal.now (bound_branch fits.made (length m2.world.heap.depths) (branch_of m1)) (bound_goal fits.made (goal_in m1.world.heap call.goal.now)) (map (bound_goal fits.made) (rest_of m1 call.goal.now)) fitted-first fits.branch bound-goals
        ∙ ap (bound_goal fits.made) goal1

    rest2-is : rest_of m2 call.goal.now ≡ map (bound_goal fits.made) (rest_of m0 call.goal.now)
    rest2-is =
        rest-is m2 call.goal.now (bound_branch fits.made (length m2.world.heap.depths) (branch_of m1)) (bound_goal fits.made (goal_in m1.world.heap call.goal.now)) (map (bound_goal fits.made) (rest_of m1 call.goal.now)) fitted-first fits.branch bound-goals
        ∙ ap (map (bound_goal fits.made)) rest1

    -- a body that was made before the head was unified
    pub body-early : (body : List TermId) → all_read m1.world.heap body ≡ (instance_for m0 call c).body → AllValidAt m1.world.heap body call.goal.now.depth
        → all_read m2.world.heap body ≡ map (bound fits.made) (instance_for m0 call c).body
    body-early body is valid = nodes-bound m1.world.heap m2.world.heap fits.made call.goal.now.depth fits.readings body valid ∙ ap (map (bound fits.made)) is

    -- the nodes of its variables then
    pub variables-bound : (next : ℕ) (variables : List TermId) → AllValidAt m1.world.heap variables call.goal.now.depth → ReadAsVariables m1.world.heap [] call.goal.now.depth next variables
        → ReadAsVariables m2.world.heap fits.made call.goal.now.depth next variables
    variables-bound next variables valid reads v l =
        let t = get_or variables v (record { index = 0 }) in
        fits.readings t.index names (valid-below m1.world.heap t.index call.goal.now.depth (valid-at m1.world.heap call.goal.now.depth variables v valid l)) ∙ ap (bound fits.made) (reads v l)

    -- the branch with the clause's body is the one that the reference gives
    pub clause-fits : (modes : Option (List Bool)) → HasInputs call modes → (ts : List Term) → ts ≡ map (bound fits.made) (instance_for m0 call c).body → (new : Branch)
        → new ≡ with_terms (branch_of m2) (goal_in m2.world.heap call.goal.now) (rest_of m2 call.goal.now) (length m0.saved) ts (choice_of c)
        → tried_here m0 call.goal.now modes c ≡ Fits new
    clause-fits modes inputs ts body new is =
        let bs = fits.made in
        let n = length m2.world.heap.depths in
        let shape : Branch → List Goal → Branch = λ b gs. record b { goals = gs; path = choice_of c ∷ b.path } in
        let goals : Goal → List Term → List Goal → List Goal = λ x ts xs. map (λ t. record x { barrier = length m0.saved; term = t }) ts ++ xs in
        let b2 : branch_of m2 ≡ bound_branch bs n (branch_of m0) = fits.branch ∙ ap (bound_branch bs n) made-branch in
        let gs : goals (goal_in m2.world.heap call.goal.now) ts (rest_of m2 call.goal.now)
        ≡ goals (bound_goal bs (goal_in m0.world.heap call.goal.now)) (map (bound bs) (instance_for m0 call c).body) (map (bound_goal bs) (rest_of m0 call.goal.now)) =
        ap (λ x. goals x ts (rest_of m2 call.goal.now)) goal2
        ∙ ap (λ xs. goals (bound_goal bs (goal_in m0.world.heap call.goal.now)) xs (rest_of m2 call.goal.now)) body
        ∙ ap (goals (bound_goal bs (goal_in m0.world.heap call.goal.now)) (map (bound bs) (instance_for m0 call c).body)) rest2-is in
        let same : new ≡ bound_branch bs n (in_place m0 call c) =
        is ∙ ap₂ shape b2 gs
        ∙ sym (entered-bound bs n (branch_of m0) (goal_in m0.world.heap call.goal.now) (rest_of m0 call.goal.now) (length m0.saved) c (instance_for m0 call c).body) in
        tried-by modes inputs ∙ fits.fits (in_place m0 call c) ∙ ap Fits (sym same)

-- an alternative that was possible before is possible after
pub keeps-both : (w0 w1 w2 : World) (a : Saved) (saved : List Saved) → AllSaved w0 (a ∷ saved) → Grows w0.heap w1.heap [] [] → LeavesRest w0 w1 → Growing w1.heap w2.heap → LeavesRest w1 w2 → Keeps a.mark w0 w2
keeps-both w0 w1 w2 a saved h grows rest grows2 rest2 =
    let first = growth-keeps w0 w1 [] [] a.mark grows rest h.0.within in
    keeps-trans a.mark w0 w1 w2 first (growing-keeps w1 w2 a.mark grows2 rest2 first.within)

pub saved-both : (w0 w1 w2 : World) (a : Saved) (saved saved' : List Saved) → saved' ≡ saved → AllSaved w0 (a ∷ saved) → Grows w0.heap w1.heap [] [] → LeavesRest w0 w1 → Growing w1.heap w2.heap → LeavesRest w1 w2
    → AllSaved w2 (a ∷ saved')
saved-both w0 w1 w2 a saved saved' e h grows rest grows2 rest2 =
    subst (λ xs. AllSaved w2 (a ∷ xs)) (sym e) (all-kept w0 w2 (a ∷ saved) h (keeps-both w0 w1 w2 a saved h grows rest grows2 rest2))

-- after going back all is as before
pub gone-back : (m0 m1 m2 new : Machine) (a : Saved) → a.mark ≡ mark_of m0.world → AllSaved m0.world (a ∷ m0.saved) → Grows m0.world.heap m1.world.heap [] [] → LeavesRest m0.world m1.world
    → Growing m1.world.heap m2.world.heap → LeavesRest m1.world m2.world → new.world ≡ undone a.mark m2.world → new.first ≡ m0.first → new.saved ≡ m0.saved → new.phase ≡ m0.phase → new ≡ m0
gone-back m0 m1 m2 new a mark h grows rest grows2 rest2 undo first saved phase =
    let world = undo ∙ (keeps-both m0.world m1.world m2.world a m0.saved h grows rest grows2 rest2).same ∙ ap (λ k. undone k m0.world) mark ∙ undone-now m0.world in
    λ i. record { world = world i; first = first i; saved = saved i; phase = phase i }

pub call-left : (m : Machine) (call : Call) (later : Later) → IsCall m call → IsLaterOf call.goal.now.context call.pred later → HasLeft m.world m.first (LeftCall call.pred later)
call-left m call later is left = record { frame = call.goal.now; goals = is.first.goals; head = is.head; left = left }

abbrev first_frame : List Frame → Frame → Frame
first_frame [] d = d
first_frame (x ∷ xs) d = x

-- what an alternative knows of the first goal
pub left-head : (m : Machine) (f : Frame) (c : Sym) (later : Later) → IsFirst m f → IsCallLeft m.world m.first c later → (head_of (read m.world.heap f.term.index names) ≡ Some (Con c.0)) × IsLaterOf f.context c later
left-head m f c later first left =
    let same : left.frame ≡ f = ap (λ xs. first_frame xs f) (sym left.goals ∙ first.goals) in
    (subst (λ x. head_of (read m.world.heap x.term.index names) ≡ Some (Con c.0)) same left.head, subst (λ x. IsLaterOf x.context c later) same left.left)

pub first-same : (m m' : Machine) (f : Frame) → m'.world ≡ m.world → m'.first ≡ m.first → IsFirst m f → IsFirst m' f
first-same m m' f w n h = record {
  goals = ap₂ (λ (v : World) (k : ℕ). chain v.frames k) w n ∙ h.goals ∙ ap (λ (v : World). f ∷ chain v.frames f.next) (sym w);
  valid = subst (λ (v : World). IsValid v.heap f.term.index f.depth) (sym w) h.valid;
  context = subst (λ (v : World). IsContextAt v.heap f.depth f.context) (sym w) h.context;
  later = omega (arith, n, h.later);
}

-- the first goal stays through the making of a head, its unification, and the making of an alternative
pub first-after : (m0 m1 m2 m3 : Machine) (f : Frame) → IsSound m0.world.heap → m1.first ≡ m0.first → Grows m0.world.heap m1.world.heap [] [] → LeavesRest m0.world m1.world
    → IsSound m1.world.heap → m2.first ≡ m1.first → Growing m1.world.heap m2.world.heap → LeavesRest m1.world m2.world → m3.world ≡ m2.world → m3.first ≡ m2.first → IsFirst m0 f → IsFirst m3 f
first-after m0 m1 m2 m3 f sound0 one grows1 rest1 sound1 two grows2 rest2 world three first =
    first-same m2 m3 f world three (first-grown m1 m2 f two sound1 grows2 rest2 (first-grown m0 m1 f one sound0 (no-notes m0.world.heap m1.world.heap grows1) rest1 first))

-- another list of terms, or another machine with the same world
pub terms-same : (m m' : Machine) (f : Frame) (barrier barrier' : ℕ) (ts ts' : List Term) (choice : Choice) → m'.world ≡ m.world → m'.first ≡ m.first → barrier' ≡ barrier → ts' ≡ ts
    → with_terms (branch_of m') (goal_in m'.world.heap f) (rest_of m' f) barrier' ts' choice ≡ with_terms (branch_of m) (goal_in m.world.heap f) (rest_of m f) barrier ts choice
terms-same m m' f barrier barrier' ts ts' choice w n e r = λ i.
    with_terms (branch_in (w i) (n i)) (goal_in (w i).heap f) (map (goal_in (w i).heap) (chain (w i).frames f.next)) (e i) (r i) choice

-- another machine with the same branch
pub terms-later : (m m' : Machine) (f : Frame) (barrier : ℕ) (ts : List Term) (choice : Choice) → IsFirst m f → IsFirst m' f → branch_of m' ≡ branch_of m
    → with_terms (branch_of m') (goal_in m'.world.heap f) (rest_of m' f) barrier ts choice ≡ with_terms (branch_of m) (goal_in m.world.heap f) (rest_of m f) barrier ts choice
terms-later m m' f barrier ts choice first first' b =
    let goal = first-is m' f (branch_of m) (goal_in m.world.heap f) (rest_of m f) first' b (goals-are m f first) in
    let rest = rest-is m' f (branch_of m) (goal_in m.world.heap f) (rest_of m f) first' b (goals-are m f first) in
    λ i. with_terms (b i) (goal i) (rest i) barrier ts choice

-- what holds of each clause holds of the next one
pub each-clause : (P : Later → Type 0) → ((i : ℕ) → P (Clauses i)) → (o : Option ℕ) → IfSome (clauses_from o) P
each-clause P f None = tt
each-clause P f (Some i) = f i

-- what is left after a clause is an alternative
pub later-left : (p : Program) (m0 m1 m2 m3 new : Machine) (c : Sym) (mark : Mark) (first : ℕ) (cs : List Candidate) (later : Option Later) → IsLeftAfter p (branch_of m0) c cs later
    → mark ≡ mark_of m0.world → first ≡ m0.first → IfSome later (λ l. AllSaved m0.world (record { mark = mark; first = first; left = LeftCall c l } ∷ m0.saved))
    → Grows m0.world.heap m1.world.heap [] [] → LeavesRest m0.world m1.world → Growing m1.world.heap m2.world.heap → LeavesRest m1.world m2.world
    → alternatives_of p m1 ≡ alternatives_of p m0 → alternatives_of p m2 ≡ alternatives_of p m1 → LeavesLater p m2 m3 mark first c later → alternatives_of p new ≡ alternatives_of p m3
    → Leaves p (branch_of m0) cs (alternatives_of p m0) (alternatives_of p new)
later-left p m0 m1 m2 m3 new c mark first cs None none e n h grows rest grows2 rest2 a1 a2 a3 a4 =
    left_out (a4 ∙ a3 ∙ a2 ∙ a1) none
later-left p m0 m1 m2 m3 new c mark first cs (Some later) (x, xs, some, is) e n h grows rest grows2 rest2 a1 a2 a3 a4 =
    let a : Saved = record { mark = mark; first = first; left = LeftCall c later } in
    let kept = (keeps-both m0.world m1.world m2.world a m0.saved h grows rest grows2 rest2).same in
    let here : saved_in p m2.world a ≡ left_at p (branch_of m0) (LeftCall c later) =
    ap (λ z. left_at p (branch_in z first) (LeftCall c later)) (kept ∙ ap (λ k. undone k m0.world) e ∙ undone-now m0.world) ∙ ap (λ k. left_at p (branch_in m0.world k) (LeftCall c later)) n in
    left_over (a4 ∙ a3 ∙ ap (λ (y : Alternative). y ∷ alternatives_of p m2) here ∙ ap (λ (ys : List Alternative). left_at p (branch_of m0) (LeftCall c later) ∷ ys) (a2 ∙ a1)
    ∙ ap (λ zs. later_clauses (branch_of m0) zs ∷ alternatives_of p m0) (is ∙ some) ∙ ap (λ zs. with_later (branch_of m0) zs (alternatives_of p m0)) (sym some))

-- a clause that is there
pub get-some : (ks : List Clause) (i : ℕ) → i < length ks → (k : Clause) × (slice_get ks i ≡ Some k)
get-some [] i h = absurd (omega (arith, h))
get-some (k ∷ ks) zero h = (k, refl)
get-some (k ∷ ks) (suc i) h = get-some ks i (omega (arith, h))
