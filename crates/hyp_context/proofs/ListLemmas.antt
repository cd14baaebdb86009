-- Contexts as lists.
use Rattle.std.proofs.Common.{◌≡◌, ℕ, suc, zero, ◌<◌, Bool, true, false, List, [], ◌∷◌, map, cond, nat_eq, length, drop, get_or, filter, refl, sym, ap, ap₂, ◌∙◌, arith, drop-cons}
use Rattle.std.specs.List.{list_any}
use Rattle.ref_terms.specs.terms.Term.{Term, At, App, Con}
use Rattle.ref_terms.specs.search.Assumption.{Assumption}
use Rattle.ref_terms.specs.search.Lists.{list_term}
use Rattle.level_terms.specs.declared.node.TermId.{TermId}
use Rattle.level_terms.specs.Graph.{Graph}
use Rattle.level_terms.specs.Growth.{Grows}
use Rattle.level_terms.specs.Reading.{read}
use Rattle.level_terms.specs.Sound.{IsSound}
use Rattle.level_terms.specs.Valid.{IsValid}
use Rattle.level_terms.proofs.ReadLemmas.{valid-below}
use Rattle.level_terms.proofs.ValidLemmas.{valid_deeper, growth_keeps_readings, growth_keeps_valid}
use Rattle.beta_fragment.specs.Names.{names}
use Rattle.beta_fragment.specs.HeadForm.{all_read, AllValidAt}
use Rattle.hyp_clause.specs.declared.hyp.Hyp.{Hyp}
use Rattle.hyp_clause.specs.Hyps.{assumption_in, AllHypsValid}
use Rattle.hyp_context.specs.Contexts.{AllWithinDepth}
use Rattle.hyp_context.specs.inside.Assumed.{assumed_nodes}

-- the nodes are valid
pub nodes-valid : (g : Graph) (depth : ℕ) (preds : List ℕ) (hs : List Hyp) → AllHypsValid g hs → AllWithinDepth depth hs → AllValidAt g (assumed_nodes preds hs) depth
nodes-valid g depth preds [] v w = tt
nodes-valid g depth preds (h ∷ hs) v w = go (list_any (nat_eq h.pred.0) preds) (nodes-valid g depth preds hs v.1 w.1)
  where
    go : (b : Bool) → AllValidAt g (assumed_nodes preds hs) depth → AllValidAt g (map (λ (x : Hyp). x.term) (cond b (h ∷ filter (λ (x : Hyp). list_any (nat_eq x.pred.0) preds) hs) (filter (λ (x : Hyp). list_any (nat_eq x.pred.0) preds) hs))) depth
    go true k = (valid_deeper g h.term.index h.depth depth v.0.term w.0, k)
    go false k = k

-- and read as the terms that were assumed
pub nodes-read : (g : Graph) (preds : List ℕ) (hs : List Hyp) → all_read g (assumed_nodes preds hs) ≡ map (λ (a : Assumption). a.assumed) (filter (λ (a : Assumption). list_any (nat_eq a.pred) preds) (map (assumption_in g) hs))
nodes-read g preds [] = refl
nodes-read g preds (h ∷ hs) = go (list_any (nat_eq h.pred.0) preds) (nodes-read g preds hs)
  where
    rest : List Assumption
    rest = filter (λ (a : Assumption). list_any (nat_eq a.pred) preds) (map (assumption_in g) hs)

    go : (b : Bool) → all_read g (assumed_nodes preds hs) ≡ map (λ (a : Assumption). a.assumed) rest →
        all_read g (map (λ (x : Hyp). x.term) (cond b (h ∷ filter (λ (x : Hyp). list_any (nat_eq x.pred.0) preds) hs) (filter (λ (x : Hyp). list_any (nat_eq x.pred.0) preds) hs))) ≡ map (λ (a : Assumption). a.assumed) (cond b (assumption_in g h ∷ rest) rest)
    go true e = ap (λ (ts : List Term). read g h.term.index names ∷ ts) e
    go false e = e

-- each node of a list
valid-at : (g : Graph) (d : ℕ) (ts : List TermId) (i : ℕ) (x : TermId) → AllValidAt g ts d → i < length ts → IsValid g (get_or ts i x).index d
valid-at g d [] i x w l = absurd (let k : i < 0 = l in omega (arith, k))
valid-at g d (t ∷ ts) zero x w l = w.0
valid-at g d (t ∷ ts) (suc i) x w l = valid-at g d ts i x w.1 (let k : suc i < suc (length ts) = l in omega (arith, k))

pub first-valid : (old g : Graph) (depth : ℕ) (terms : List TermId) (i : ℕ) (x : TermId) → IsSound old → Grows old g [] [] → AllValidAt old terms depth → i < length terms → IsValid g (get_or terms i x).index depth
first-valid old g depth terms i x s w v l =
    let here = valid-at old depth terms i x v l in
    growth_keeps_valid old g [] [] (get_or terms i x).index depth s w (valid-below old (get_or terms i x).index depth here) here

-- one more cell in front of a list
pub cell-reads : (old g h : Graph) (depth : ℕ) (terms : List TermId) (at next : ℕ) (x list r : TermId) → IsSound old → Grows old g [] [] → AllValidAt old terms depth → next < length terms → at ≡ suc next →
    read g list.index names ≡ list_term (all_read old (drop at terms)) →
    read h r.index names ≡ App (App (At (Con 19)) (read g (get_or terms next x).index names)) (read g list.index names) → read h r.index names ≡ list_term (all_read old (drop next terms))
cell-reads old g h depth terms at next x list r s w v l e rest made =
    let here = valid-at old depth terms next x v l in
    let first = growth_keeps_readings old g (get_or terms next x).index names s w (valid-below old (get_or terms next x).index depth here) in
    made
    ∙ ap₂ (λ (a b : Term). App (App (At (Con 19)) a) b) first (rest ∙ ap (λ (n : ℕ). list_term (all_read old (drop n terms))) e)
    ∙ ap (λ (ts : List TermId). list_term (all_read old ts)) (sym (drop-cons terms next x l))
