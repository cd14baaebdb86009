-- Terms headed by a constant, in the reference and in a heap that grows, and the hypothetical clauses of a term.
use Rattle.std.proofs.Common.{◌≡◌, ℕ, ◌+◌, ◌<◌, ◌≤◌, List, [], ◌∷◌, ◌++◌, map, length, Some, None, refl, sym, ap, ◌∙◌, subst, arith}
use Rattle.std.proofs.lemmas.List.{map-append}
use Rattle.level_terms.specs.declared.node.Change.{Change}
use Rattle.level_terms.specs.Graph.{Graph, Assigned}
use Rattle.level_terms.specs.Growth.{Grows}
use Rattle.level_terms.specs.Reading.{read, assigned_term}
use Rattle.level_terms.specs.Sound.{IsSound}
use Rattle.level_terms.proofs.ReadingLemmas.{assignment_instantiates}
use Rattle.level_terms.proofs.ValidLemmas.{growth_keeps_readings}
use Rattle.level_terms.proofs.ReadLemmas.{valid-below}
use Rattle.beta_fragment.specs.Names.{names}
use Rattle.ref_terms.specs.terms.Term.{Term, Head, Lam, At, App, Con}
use Rattle.ref_terms.specs.terms.Apply.{apply, fill}
use Rattle.ref_terms.specs.terms.Instance.{inst, only}
use Rattle.ref_terms.specs.unification.Spine.{head_of, args_of}
use Rattle.ref_terms.specs.search.Fault.{Good}
use Rattle.ref_terms.specs.search.Assumption.{assumptions_of}
use Rattle.hyp_clause.specs.declared.hyp.Hyp.{Hyp}
use Rattle.hyp_clause.specs.Hyps.{assumption_in, AllHypsValid}
use Rattle.hyp_clause.specs.Headed.{AllHeaded, AllScoped}
use Rattle.hyp_clause.proofs.HypLemmas.{hyps-valid, hyps-append}
use Rattle.hyp_clause.proofs.HeadedLemmas.{assumed-headed, assumed-scoped}
use Rattle.search_moves.specs.World.{AllUsable, IsContextAt}

-- a term headed by a constant stays so where that constant stands for itself, and so do its arguments
abbrev pub StaysHeaded : (Head → Term) → ℕ → Term → Type 0
StaysHeaded r c t = (head_of (fill r t) ≡ Some (Con c)) × (args_of (fill r t) ≡ map (fill r) (args_of t))

apply-headed : (c : ℕ) (f a : Term) → head_of f ≡ Some (Con c) → apply f a ≡ App f a
apply-headed c (Lam b) a e = absurd (let k : None ≡ Some (Con c) = e in cc)
apply-headed c (At h) a e = refl
apply-headed c (App f b) a e = refl

pub stays-headed : (r : Head → Term) (c : ℕ) → r (Con c) ≡ At (Con c) → (t : Term) → head_of t ≡ Some (Con c) → StaysHeaded r c t
stays-headed r c s (Lam b) e = absurd (let k : None ≡ Some (Con c) = e in cc)
stays-headed r c s (At h) e =
    let same : h ≡ Con c = let z : Some h ≡ Some (Con c) = e in cc in
    let at : r h ≡ At (Con c) = ap r same ∙ s in
    (ap head_of at, ap args_of at)
stays-headed r c s (App f a) e =
    let w = stays-headed r c s f e in
    let step : fill r (App f a) ≡ App (fill r f) (fill r a) = apply-headed c (fill r f) (fill r a) w.0 in (
      ap head_of step ∙ w.0,
      ap args_of step ∙ ap (λ (xs : List Term). xs ++ fill r a ∷ []) w.1 ∙ sym (map-append (fill r) (args_of f) (a ∷ [])),
    )

inst-headed : (v : ℕ) (u : Term) (c : ℕ) (t : Term) → head_of t ≡ Some (Con c) → head_of (inst v u t) ≡ Some (Con c)
inst-headed v u c t e = (stays-headed (only v u) c refl t e).0

-- assignments change no such head
assigned-headed : (g : Graph) (xs : List Assigned) (t c : ℕ) → head_of (read g t names) ≡ Some (Con c) → head_of (read (record g { assigned = xs ++ g.assigned }) t names) ≡ Some (Con c)
assigned-headed g [] t c e = e
assigned-headed g (a ∷ xs) t c e =
    let h : Graph = record g { assigned = xs ++ g.assigned } in
    ap head_of (assignment_instantiates h a t names) ∙ inst-headed a.variable (assigned_term h a) c (read h t names) (assigned-headed g xs t c e)

-- whatever a call may change of the heap
pub headed-grown : (g h : Graph) (r s : List Change) (t c : ℕ) → IsSound g → Grows g h r s → t < length g.nodes → head_of (read g t names) ≡ Some (Con c) → head_of (read h t names) ≡ Some (Con c)
headed-grown g h r s t c sound w k e =
    let made : Graph = record { nodes = w.new_nodes ++ g.nodes; depths = g.depths ++ w.new_depths; assigned = g.assigned } in
    let grows : Grows g made [] [] = record { new_nodes = w.new_nodes; new_depths = w.new_depths; new_assigned = []; nodes = refl; depths = refl; assigned = refl; trail = refl } in
    let there : head_of (read made t names) ≡ Some (Con c) = ap head_of (growth_keeps_readings g made t names sound grows k) ∙ e in
    let same : h ≡ record made { assigned = w.new_assigned ++ g.assigned } = λ i. record { nodes = w.nodes i; depths = w.depths i; assigned = w.assigned i } in
    subst (λ z. head_of (read z t names) ≡ Some (Con c)) (sym same) (assigned-headed made w.new_assigned t c there)

usable-grown : (g h : Graph) (r s : List Change) (d : ℕ) → IsSound g → Grows g h r s → (hs : List Hyp) → AllHypsValid g hs → AllUsable g d hs → AllUsable h d hs
usable-grown g h r s d sound w [] v u = tt
usable-grown g h r s d sound w (x ∷ xs) v u = (
  record { scope = u.0.scope; head = headed-grown g h r s x.head.index x.pred.0 sound w (valid-below g x.head.index (x.depth + x.pis) v.0.head) u.0.head },
  usable-grown g h r s d sound w xs v.1 u.1,
)

-- assumptions of a goal may still be such in a heap that grew
pub context-grown : (g h : Graph) (r s : List Change) (d : ℕ) → IsSound g → Grows g h r s → (hs : List Hyp) → IsContextAt g d hs → IsContextAt h d hs
context-grown g h r s d sound w hs v = record { valid = hyps-valid g h r s hs sound w v.valid; usable = usable-grown g h r s d sound w hs v.valid v.usable }

usable-deeper : (g : Graph) (d e : ℕ) → d ≤ e → (hs : List Hyp) → AllUsable g d hs → AllUsable g e hs
usable-deeper g d e k [] u = tt
usable-deeper g d e k (x ∷ xs) u = (record { scope = let low = u.0.scope in omega (arith, low, k); head = u.0.head }, usable-deeper g d e k xs u.1)

-- and under more names
pub context-deeper : (g : Graph) (d e : ℕ) (hs : List Hyp) → d ≤ e → IsContextAt g d hs → IsContextAt g e hs
context-deeper g d e hs k v = record { valid = v.valid; usable = usable-deeper g d e k hs v.usable }

usable-append : (g : Graph) (d : ℕ) (xs ys : List Hyp) → AllUsable g d xs → AllUsable g d ys → AllUsable g d (xs ++ ys)
usable-append g d [] ys u v = v
usable-append g d (x ∷ xs) ys u v = (u.0, usable-append g d xs ys u.1 v)

-- one list before another
pub context-append : (g : Graph) (d : ℕ) (xs ys : List Hyp) → IsContextAt g d xs → IsContextAt g d ys → IsContextAt g d (xs ++ ys)
context-append g d xs ys u v = record { valid = hyps-append g xs ys u.valid v.valid; usable = usable-append g d xs ys u.usable v.usable }

-- the clauses that a term assumes may be assumptions of a goal under as many names

own-usable : (g : Graph) (scope : ℕ) (hs : List Hyp) → AllScoped scope (map (assumption_in g) hs) → AllHeaded (map (assumption_in g) hs) → AllUsable g scope hs
own-usable g scope [] u v = tt
own-usable g scope (x ∷ xs) u v = (record { scope = let at : x.depth ≡ scope = u.0 in omega (arith, at); head = v.0 }, own-usable g scope xs u.1 v.1)

pub compiled-context : (g : Graph) (scope : ℕ) (t : Term) (hs : List Hyp) → Good (map (assumption_in g) hs) ≡ assumptions_of scope t → AllHypsValid g hs → IsContextAt g scope hs
compiled-context g scope t hs e v =
    let assumed = map (assumption_in g) hs in
    record { valid = v; usable = own-usable g scope hs (assumed-scoped scope t assumed (sym e)) (assumed-headed scope t assumed (sym e)) }
