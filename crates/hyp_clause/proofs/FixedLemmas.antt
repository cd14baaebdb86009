-- Hypothetical clauses in which nothing can change.
use Rattle.std.proofs.Common.{◌≡◌, ℕ, ◌+◌, ◌<◌, ◌&&◌, ◌||◌, Bool, true, false, List, [], ◌∷◌, length, refl, sym, ap₂, ◌∙◌}
use Rattle.std.specs.List.{list_all, list_any}
use Rattle.ref_terms.specs.terms.Term.{Term}
use Rattle.ref_terms.specs.terms.Occurs.{occurs}
use Rattle.level_terms.specs.declared.node.TermId.{TermId}
use Rattle.level_terms.specs.declared.node.Change.{Change}
use Rattle.level_terms.specs.Graph.{Graph}
use Rattle.level_terms.specs.GroundNormal.{IsGroundNormal, is_ground_normal}
use Rattle.level_terms.specs.Growth.{Grows}
use Rattle.level_terms.specs.Reading.{read}
use Rattle.level_terms.specs.Sound.{IsSound}
use Rattle.level_terms.proofs.GroundLemmas.{ground_normal-grown, ground_normal-reads, ground_normal-term, ground_normal-occurs}
use Rattle.level_terms.proofs.ReadLemmas.{valid-below}
use Rattle.level_terms.proofs.ValidLemmas.{growth_keeps_readings}
use Rattle.beta_fragment.specs.Names.{names}
use Rattle.beta_fragment.specs.HeadForm.{all_read, AllValidAt}
use Rattle.beta_fragment.proofs.EnterLemmas.{names-places}
use Rattle.hyp_clause.specs.declared.hyp.Hyp.{Hyp}
use Rattle.hyp_clause.specs.Hyps.{assumption_in, nodes_of, all_ground_normal, IsHypValid}
use Rattle.hyp_clause.specs.Fixed.{FlaggedReadTheSame, FlaggedHaveNoVariable, FlaggedAreGround}

left_true : (a b : Bool) → (a && b) ≡ true → a ≡ true
left_true true b e = refl
left_true false b e = absurd (let z : false ≡ true = e in cc)

right_true : (a b : Bool) → (a && b) ≡ true → b ≡ true
right_true true b e = e
right_true false b e = absurd (let z : false ≡ true = e in cc)

-- the nodes of a clause with the flag
pub record AreFixed (g : Graph) (x : Hyp) : Type 0 where
  pub head : IsGroundNormal g x.head.index
  pub term : IsGroundNormal g x.term.index
  pub body : all_ground_normal g x.body ≡ true

pub flagged-fixed : (g : Graph) (x : Hyp) → IsHypValid g x → x.ground_normal ≡ true → AreFixed g x
flagged-fixed g x v f =
    let all : all_ground_normal g (nodes_of x) ≡ true = sym v.flag ∙ f in
    let more = right_true _ _ all in
    record { head = left_true _ _ all; term = left_true _ _ more; body = right_true _ _ more }

-- a node in which nothing can change, whatever is assigned
fixed-reads : (g h : Graph) (r s : List Change) (t : ℕ) → IsSound g → Grows g h r s → t < length g.nodes → IsGroundNormal g t → read h t names ≡ read g t names
fixed-reads g h r s t sound w l e =
    let now : IsGroundNormal h t = ground_normal-grown g h r s t w l ∙ e in
    let grown : Grows g (record h { assigned = g.assigned }) [] [] = record { new_nodes = w.new_nodes; new_depths = w.new_depths; new_assigned = []; nodes = w.nodes; depths = w.depths; assigned = refl; trail = refl } in
    sym (ground_normal-reads h g.assigned t names now names-places) ∙ growth_keeps_readings g (record h { assigned = g.assigned }) t names sound grown l

all-fixed_read : (g h : Graph) (r s : List Change) (d : ℕ) (ts : List TermId) → IsSound g → Grows g h r s → AllValidAt g ts d → all_ground_normal g ts ≡ true → all_read h ts ≡ all_read g ts
all-fixed_read g h r s d [] sound w v e = refl
all-fixed_read g h r s d (t ∷ ts) sound w v e =
    ap₂ (λ (u : Term) (us : List Term). u ∷ us) (fixed-reads g h r s t.index sound w (valid-below g t.index d v.0) (left_true _ _ e)) (all-fixed_read g h r s d ts sound w v.1 (right_true _ _ e))

pub flagged-read_same : FlaggedReadTheSame
flagged-read_same g h r s x sound w v f =
    let fixed = flagged-fixed g x v f in
    let head = fixed-reads g h r s x.head.index sound w (valid-below g x.head.index (x.depth + x.pis) v.head) fixed.head in
    let body = all-fixed_read g h r s (x.depth + x.pis) x.body sound w v.body fixed.body in
    let term = fixed-reads g h r s x.term.index sound w (valid-below g x.term.index x.depth v.term) fixed.term in
    λ i. record { pred = x.pred.0; scope = x.depth; parameters = x.pis; head = head i; conditions = body i; assumed = term i }

-- what they read as
all-fixed_ground : (g : Graph) (ts : List TermId) → all_ground_normal g ts ≡ true → list_all is_ground_normal (all_read g ts) ≡ true
all-fixed_ground g [] e = refl
all-fixed_ground g (t ∷ ts) e = both (is_ground_normal (read g t.index names)) (ground_normal-term g t.index names (left_true _ _ e) names-places) (all-fixed_ground g ts (right_true _ _ e))
  where
    both : (a : Bool) {b : Bool} → a ≡ true → b ≡ true → (a && b) ≡ true
    both true p q = q
    both false p q = p

pub flagged-ground : FlaggedAreGround
flagged-ground g x v f =
    let fixed = flagged-fixed g x v f in
    record {
      head = ground_normal-term g x.head.index names fixed.head names-places;
      conditions = all-fixed_ground g x.body fixed.body;
      assumed = ground_normal-term g x.term.index names fixed.term names-places;
    }

none-occurs : (v : ℕ) (ts : List Term) → list_all is_ground_normal ts ≡ true → list_any (occurs v) ts ≡ false
none-occurs v [] e = refl
none-occurs v (t ∷ ts) e = ap₂ (λ (a b : Bool). a || b) (ground_normal-occurs v t (left_true _ _ e)) (none-occurs v ts (right_true _ _ e))

pub flagged-no_variable : FlaggedHaveNoVariable
flagged-no_variable g x v valid f =
    let a = assumption_in g x in
    let w = flagged-ground g x valid f in
    let head = ground_normal-occurs v a.head w.head in
    let conditions = none-occurs v a.conditions w.conditions in
    let assumed = ground_normal-occurs v a.assumed w.assumed in
    rw (head, conditions, assumed) refl
