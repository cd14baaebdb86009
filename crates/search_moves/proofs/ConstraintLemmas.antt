-- The suspended goals in a heap that grows.
use Rattle.std.proofs.Common.{◌≡◌, ℕ, List, [], ◌∷◌, map, refl, ap₂}
use Rattle.level_terms.specs.declared.node.Change.{Change}
use Rattle.level_terms.specs.declared.node.TermId.{TermId}
use Rattle.level_terms.specs.Graph.{Graph}
use Rattle.level_terms.specs.Growth.{Grows}
use Rattle.level_terms.specs.Reading.{read}
use Rattle.level_terms.specs.Sound.{IsSound}
use Rattle.level_terms.specs.Valid.{IsValid}
use Rattle.level_terms.proofs.ValidLemmas.{growth_keeps_readings}
use Rattle.level_terms.proofs.ReadLemmas.{valid-below}
use Rattle.beta_fragment.specs.Names.{names}
use Rattle.beta_fragment.specs.HeadForm.{all_read, AllValidAt}
use Rattle.beta_fragment.proofs.HeadLemmas.{read-grown_all}
use Rattle.ref_terms.specs.terms.Term.{Term}
use Rattle.ref_terms.specs.unification.Problem.{Binding}
use Rattle.ref_terms.specs.search.Branch as branch
use Rattle.ref_terms.specs.search.Branch.{bound, bound_constraint}
use Rattle.hyp_clause.specs.declared.hyp.Hyp.{Hyp}
use Rattle.hyp_clause.proofs.HypLemmas.{hyps-read}
use Rattle.hyp_clause.proofs.LawLemmas.{hyps-bound}
use Rattle.suspend.specs.declared.constraint.Constraint.{Constraint}
use Rattle.hyp_context.specs.Contexts.{AllWithinDepth}
use Rattle.sequent_rules.specs.Branches.{AllSequents}
use Rattle.search_moves.specs.World.{AllUsable, AllConstraints}
use Rattle.search_moves.specs.Reading.{constraint_in}
use Rattle.search_moves.proofs.OwnLemmas.{context-grown}
use Rattle.search_moves.proofs.FrameLemmas.{valid-grown, all-valid-grown}

-- what holds of them still does
pub constraints-grown : (g h : Graph) (s t : List Change) → IsSound g → Grows g h s t → (es : List (ℕ × Constraint (List Hyp))) → AllConstraints g es → AllConstraints h es
constraints-grown g h s t sound w [] v = tt
constraints-grown g h s t sound w (e ∷ es) v = (
  record {
    goal = valid-grown g h s t e.1.goal.index e.1.names sound w v.0.goal;
    keys = all-valid-grown g h s t e.1.names sound w e.1.keys v.0.keys;
    context = context-grown g h s t e.1.names sound w e.1.context v.0.context;
  },
  constraints-grown g h s t sound w es v.1,
)

-- without assignments they read as they did
pub constraints-read : (g h : Graph) → IsSound g → Grows g h [] [] → (es : List (ℕ × Constraint (List Hyp))) → AllConstraints g es → map (constraint_in h) es ≡ map (constraint_in g) es
constraints-read g h sound w [] v = refl
constraints-read g h sound w (e ∷ es) v =
    let assumed = hyps-read g h e.1.context sound w v.0.context.valid in
    let term = growth_keeps_readings g h e.1.goal.index names sound w (valid-below g e.1.goal.index e.1.names v.0.goal) in
    let keys = read-grown_all g h e.1.names sound w e.1.keys v.0.keys in
    let one : constraint_in h e ≡ constraint_in g e = λ i. record { number = e.0; names = e.1.names; assumptions = assumed i; term = term i; keys = keys i } in
    ap₂ (λ (x : branch.Constraint) (xs : List branch.Constraint). x ∷ xs) one (constraints-read g h sound w es v.1)

pub all-bound : (g h : Graph) (bs : List Binding) (d : ℕ) → ((t : ℕ) → IsValid g t d → read h t names ≡ bound bs (read g t names)) → (ts : List TermId) → AllValidAt g ts d → all_read h ts ≡ map (bound bs) (all_read g ts)
all-bound g h bs d e [] v = refl
all-bound g h bs d e (t ∷ ts) v = ap₂ (λ (x : Term) (xs : List Term). x ∷ xs) (e t.index v.0) (all-bound g h bs d e ts v.1)

-- under bindings they read as those of the reference
pub constraints-bound : (g h : Graph) (bs : List Binding) → ((t d : ℕ) → IsValid g t d → read h t names ≡ bound bs (read g t names)) → (es : List (ℕ × Constraint (List Hyp))) → AllConstraints g es
    → map (constraint_in h) es ≡ map (bound_constraint bs) (map (constraint_in g) es)
constraints-bound g h bs reads [] v = refl
constraints-bound g h bs reads (e ∷ es) v =
    let assumed = hyps-bound g h bs e.1.context reads v.0.context.valid in
    let term = reads e.1.goal.index e.1.names v.0.goal in
    let keys = all-bound g h bs e.1.names (λ t k. reads t e.1.names k) e.1.keys v.0.keys in
    let one : constraint_in h e ≡ bound_constraint bs (constraint_in g e) = λ i. record { number = e.0; names = e.1.names; assumptions = assumed i; term = term i; keys = keys i } in
    ap₂ (λ (x : branch.Constraint) (xs : List branch.Constraint). x ∷ xs) one (constraints-bound g h bs reads es v.1)

-- as the search for rule instances sees them

usable-within : (g : Graph) (d : ℕ) (hs : List Hyp) → AllUsable g d hs → AllWithinDepth d hs
usable-within g d [] u = tt
usable-within g d (h ∷ hs) u = (u.0.scope, usable-within g d hs u.1)

pub constraints-sequents : (g : Graph) (es : List (ℕ × Constraint (List Hyp))) → AllConstraints g es → AllSequents g es
constraints-sequents g [] v = tt
constraints-sequents g (e ∷ es) v = (
  record { goal = v.0.goal; keys = v.0.keys; context = v.0.context.valid; within = usable-within g e.1.names e.1.context v.0.context.usable },
  constraints-sequents g es v.1,
)
