-- Hypothetical clauses in a heap that grew, and in one that went back.
use Rattle.std.proofs.Common.{◌≡◌, ℕ, ◌+◌, ◌&&◌, Bool, List, [], ◌∷◌, ◌++◌, map, refl, sym, ap₂, ◌∙◌}
use Rattle.ref_terms.specs.search.Assumption.{Assumption}
use Rattle.level_terms.specs.declared.node.TermId.{TermId}
use Rattle.level_terms.specs.declared.node.Change.{Change}
use Rattle.level_terms.specs.Graph.{Graph}
use Rattle.level_terms.specs.Growth.{Grows}
use Rattle.level_terms.specs.Sound.{IsSound}
use Rattle.level_terms.proofs.GroundLemmas.{ground_normal-grown}
use Rattle.level_terms.proofs.ValidLemmas.{growth_keeps_readings, growth_keeps_valid}
use Rattle.beta_fragment.specs.Names.{names}
use Rattle.beta_fragment.specs.HeadForm.{AllValidAt}
use Rattle.beta_fragment.proofs.HeadLemmas.{read-grown_all}
use Rattle.level_terms.proofs.ReadLemmas.{valid-below}
use Rattle.hyp_clause.specs.declared.hyp.Hyp.{Hyp}
use Rattle.hyp_clause.specs.Hyps.{assumption_in, nodes_of, all_ground_normal, IsHypValid, AllHypsValid}

-- a growth without notes changes no reading
pub hyp-reads : (g h : Graph) (x : Hyp) → IsSound g → Grows g h [] [] → IsHypValid g x → assumption_in h x ≡ assumption_in g x
hyp-reads g h x s w v =
    let head = growth_keeps_readings g h x.head.index names s w (valid-below g x.head.index (x.depth + x.pis) v.head) in
    let body = read-grown_all g h (x.depth + x.pis) s w x.body v.body in
    let term = growth_keeps_readings g h x.term.index names s w (valid-below g x.term.index x.depth v.term) in
    λ i. record { pred = x.pred.0; scope = x.depth; parameters = x.pis; head = head i; conditions = body i; assumed = term i }

pub hyps-read : (g h : Graph) (xs : List Hyp) → IsSound g → Grows g h [] [] → AllHypsValid g xs → map (assumption_in h) xs ≡ map (assumption_in g) xs
hyps-read g h [] s w v = refl
hyps-read g h (x ∷ xs) s w v = ap₂ (λ (y : Assumption) (ys : List Assumption). y ∷ ys) (hyp-reads g h x s w v.0) (hyps-read g h xs s w v.1)

-- whatever a call may change leaves them valid
nodes-valid : (g h : Graph) (r s : List Change) (d : ℕ) → IsSound g → Grows g h r s → (ts : List TermId) → AllValidAt g ts d → AllValidAt h ts d
nodes-valid g h r s d sound w [] v = tt
nodes-valid g h r s d sound w (t ∷ ts) v = (growth_keeps_valid g h r s t.index d sound w (valid-below g t.index d v.0) v.0, nodes-valid g h r s d sound w ts v.1)

-- and as changeable as they were
all-fixed_grown : (g h : Graph) (r s : List Change) (d : ℕ) (ts : List TermId) → Grows g h r s → AllValidAt g ts d → all_ground_normal h ts ≡ all_ground_normal g ts
all-fixed_grown g h r s d [] w v = refl
all-fixed_grown g h r s d (t ∷ ts) w v = ap₂ (λ (a b : Bool). a && b) (ground_normal-grown g h r s t.index w (valid-below g t.index d v.0)) (all-fixed_grown g h r s d ts w v.1)

nodes-fixed : (g h : Graph) (r s : List Change) (x : Hyp) → Grows g h r s → IsHypValid g x → all_ground_normal h (nodes_of x) ≡ all_ground_normal g (nodes_of x)
nodes-fixed g h r s x w v =
    ap₂ (λ (a b : Bool). a && b) (ground_normal-grown g h r s x.head.index w (valid-below g x.head.index (x.depth + x.pis) v.head))
    (ap₂ (λ (a b : Bool). a && b) (ground_normal-grown g h r s x.term.index w (valid-below g x.term.index x.depth v.term)) (all-fixed_grown g h r s (x.depth + x.pis) x.body w v.body))

pub hyp-valid : (g h : Graph) (r s : List Change) (x : Hyp) → IsSound g → Grows g h r s → IsHypValid g x → IsHypValid h x
hyp-valid g h r s x sound w v = record {
  head = growth_keeps_valid g h r s x.head.index (x.depth + x.pis) sound w (valid-below g x.head.index (x.depth + x.pis) v.head) v.head;
  body = nodes-valid g h r s (x.depth + x.pis) sound w x.body v.body;
  term = growth_keeps_valid g h r s x.term.index x.depth sound w (valid-below g x.term.index x.depth v.term) v.term;
  flag = v.flag ∙ sym (nodes-fixed g h r s x w v);
}

pub hyps-valid : (g h : Graph) (r s : List Change) (xs : List Hyp) → IsSound g → Grows g h r s → AllHypsValid g xs → AllHypsValid h xs
hyps-valid g h r s [] sound w v = tt
hyps-valid g h r s (x ∷ xs) sound w v = (hyp-valid g h r s x sound w v.0, hyps-valid g h r s xs sound w v.1)

pub hyps-append : (g : Graph) (xs ys : List Hyp) → AllHypsValid g xs → AllHypsValid g ys → AllHypsValid g (xs ++ ys)
hyps-append g [] ys v w = w
hyps-append g (x ∷ xs) ys v w = (v.0, hyps-append g xs ys v.1 w)
