-- Pairs of arguments, and heads that no assignment changes before their arguments.
use Rattle.std.proofs.Common.{◌≡◌, ℕ, zero, suc, ◌<◌, ◌++◌, List, [], ◌∷◌, length, drop, reverse, get_or, Option, Some, None, IfSome, refl, sym, ap, ap₂, ◌∙◌, arith, subst, append-nil, append_assoc}
use Rattle.std.proofs.lemmas.List.{length-map, reverse-append, reverse-reverse}
use Rattle.level_terms.specs.declared.node.Node.{Node}
use Rattle.level_terms.specs.declared.node.Node.TheVariants.{Con, Int, Str, Level, Lam, App, Var}
use Rattle.level_terms.specs.declared.node.TermId.{TermId}
use Rattle.level_terms.specs.Graph.{Graph, node_at}
use Rattle.level_terms.specs.Sound.{IsSound}
use Rattle.level_terms.specs.Valid.{IsValid}
use Rattle.level_terms.specs.Reading.{read}
use Rattle.level_terms.specs.Reached.{tree, tree_size}
use Rattle.level_terms.proofs.NodeLemmas.{nodes_read}
use Rattle.ref_terms.specs.terms.Term.{Term, Head, At}
use Rattle.ref_terms.specs.terms.Apply.{apply}
use Rattle.ref_terms.specs.unification.Spine.{apply_all, args_of, head_of}
use Rattle.beta_fragment.specs.Names.{names}
use Rattle.beta_fragment.specs.HeadForm.{AllValidAt, all_read, rigid_head}
use Rattle.beta_fragment.specs.declared.answer.RigidHead.{RigidHead}
use Rattle.beta_fragment.specs.Firm.{IsPlain, IsPlainNode}
use Rattle.beta_fragment.specs.inside.Spine.{args_in}
use Rattle.beta_fragment.specs.declared.equality.Pair.{Pair}
use Rattle.beta_fragment.specs.inside.Pairs.{IsValidPair, AllValidPairs, IsSame, AllSame, pairs_size, pairs_of, Divides}
use Rattle.beta_fragment.proofs.EnterLemmas.{names-places}
use Rattle.beta_fragment.proofs.FirmLemmas.{apply-plain, apply_all-head}
use Rattle.level_terms.proofs.MakeLemmas.{parts-there}
use Rattle.beta_fragment.proofs.MoveLemmas.{app-valid}
use Rattle.beta_fragment.proofs.PairLemmas.{valid-append, same-append, same-front, same-back, size-append, same-lists, lists-same, lists-valid, lists-size, spine-parts}
use Rattle.beta_fragment.proofs.WorkLemmas.{size-some, total, app-size}

-- the pairs from an index on
pub pairs-all : (d : ℕ) (ts us : List TermId) → drop (length ts) (pairs_of d ts us) ≡ []
pairs-all d [] us = refl
pairs-all d (t ∷ ts) [] = refl
pairs-all d (t ∷ ts) (u ∷ us) = pairs-all d ts us

pub pairs-one : (d : ℕ) (ts us : List TermId) (i : ℕ) (z z' : TermId) → i < length ts → i < length us → drop i (pairs_of d ts us) ≡ record { left = get_or ts i z; right = get_or us i z'; depth = d } ∷ drop (suc i) (pairs_of d ts us)
pairs-one d [] us i z z' h k = absurd (omega (arith, h))
pairs-one d (t ∷ ts) [] i z z' h k = absurd (omega (arith, k))
pairs-one d (t ∷ ts) (u ∷ us) zero z z' h k = refl
pairs-one d (t ∷ ts) (u ∷ us) (suc i) z z' h k = pairs-one d ts us i z z' (omega (arith, h)) (omega (arith, k))

pub pairs-step : (old work new rest : List Pair) (p : Pair) (all : List Pair) → work ≡ old ++ reverse rest → new ≡ work ++ p ∷ [] → all ≡ p ∷ rest → new ≡ old ++ reverse all
pairs-step old work new rest p all h e k =
    e ∙ ap (λ (ws : List Pair). ws ++ p ∷ []) h ∙ append_assoc old (reverse rest) (p ∷ [])
    ∙ ap (λ (ws : List Pair). old ++ ws) (sym (reverse-append (p ∷ []) rest) ∙ ap reverse (sym k))

-- the same list from its last pair on
pub valid-reverse : (g : Graph) (ps : List Pair) → AllValidPairs g ps → AllValidPairs g (reverse ps)
valid-reverse g [] v = tt
valid-reverse g (p ∷ ps) v = subst (AllValidPairs g) (sym (reverse-append (p ∷ []) ps)) (valid-append g (reverse ps) (p ∷ []) (valid-reverse g ps v.1) (v.0, tt))

pub same-reverse : (g : Graph) (ps : List Pair) → AllSame g ps → AllSame g (reverse ps)
same-reverse g [] v = tt
same-reverse g (p ∷ ps) v = subst (AllSame g) (sym (reverse-append (p ∷ []) ps)) (same-append g (reverse ps) (p ∷ []) (same-reverse g ps v.1) (v.0, tt))

pub same-forward : (g : Graph) (ps : List Pair) → AllSame g (reverse ps) → AllSame g ps
same-forward g ps v = subst (AllSame g) (reverse-reverse ps) (same-reverse g (reverse ps) v)

pub size-reverse : (g : Graph) (ps : List Pair) → pairs_size g (reverse ps) ≡ pairs_size g ps
size-reverse g [] = refl
size-reverse g (p ∷ ps) =
    let split = ap (pairs_size g) (reverse-append (p ∷ []) ps) ∙ size-append g (reverse ps) (p ∷ []) in
    let rest = size-reverse g ps in
    omega (arith, split, rest)

-- applications of terms that are no abstractions
pub apps-divide : (g : Graph) (p : Pair) (k k' : TermId) (ts us : List TermId) (old more new : List Pair) → IsSound g → IsValidPair g p → node_at g.nodes p.left.index ≡ Some (App k ts) → node_at g.nodes p.right.index ≡ Some (App k' us) → length ts ≡ length us → IsPlainNode g k.index → IsPlainNode g k'.index →
    more ≡ old ++ reverse (pairs_of p.depth ts us) → new ≡ more ++ record { left = k; right = k'; depth = p.depth } ∷ [] → Divides g p old new
apps-divide g p k k' ts us old more new sound v e f l plain plain' pushed last =
    let left = app-valid g p.left.index p.depth k ts sound e v.0 in
    let right = app-valid g p.right.index p.depth k' us sound f v.1 in
    let reads : read g p.left.index names ≡ apply_all (read g k.index names) (all_read g ts) = nodes_read g p.left.index (App k ts) names sound names-places e in
    let reads' : read g p.right.index names ≡ apply_all (read g k'.index names) (all_read g us) = nodes_read g p.right.index (App k' us) names sound names-places f in
    record {
      parts = reverse (pairs_of p.depth ts us) ++ record { left = k; right = k'; depth = p.depth } ∷ [];
      pushed = last ∙ ap (λ zs. zs ++ record { left = k; right = k'; depth = p.depth } ∷ []) pushed ∙ append_assoc old (reverse (pairs_of p.depth ts us)) (record { left = k; right = k'; depth = p.depth } ∷ []);
      valid = valid-append g (reverse (pairs_of p.depth ts us)) (record { left = k; right = k'; depth = p.depth } ∷ []) (valid-reverse g (pairs_of p.depth ts us) (lists-valid g p.depth ts us left.1 right.1)) ((left.0, right.0), tt);
      whole = λ w. reads
          ∙ ap₂ apply_all (same-back g (reverse (pairs_of p.depth ts us)) (record { left = k; right = k'; depth = p.depth } ∷ []) w).0 (same-lists g p.depth ts us l (same-forward g (pairs_of p.depth ts us) (same-front g (reverse (pairs_of p.depth ts us)) (record { left = k; right = k'; depth = p.depth } ∷ []) w)))
          ∙ sym reads';
      each = λ w.
          let parts = spine-parts (all_read g ts) (all_read g us) (read g k.index names) (read g k'.index names) (length-map ts (λ t. read g t.index names) ∙ l ∙ sym (length-map us (λ t. read g t.index names))) (plain names names-places) (plain' names names-places) (sym reads ∙ w ∙ reads') in
          same-append g (reverse (pairs_of p.depth ts us)) (record { left = k; right = k'; depth = p.depth } ∷ []) (same-reverse g (pairs_of p.depth ts us) (lists-same g p.depth ts us parts.1)) (parts.0, tt);
      less =
          let size = size-append g (reverse (pairs_of p.depth ts us)) (record { left = k; right = k'; depth = p.depth } ∷ []) in
          let turned = size-reverse g (pairs_of p.depth ts us) in
          let args = lists-size g p.depth ts us in
          let first = app-size g p.left.index k ts sound e in
          let second = app-size g p.right.index k' us sound f in
          omega (arith, size, turned, args, first, second);
    }

-- terms that are heads before arguments are equal exactly where their heads and arguments are
args-applied : (xs : List Term) (t : Term) → IsPlain t → args_of (apply_all t xs) ≡ args_of t ++ xs
args-applied [] t w = sym (append-nil (args_of t))
args-applied (x ∷ xs) t w =
    args-applied xs (apply t x) (subst IsPlain (sym (apply-plain t x w)) tt)
    ∙ ap (λ (u : Term). args_of u ++ xs) (apply-plain t x w)
    ∙ append_assoc (args_of t) (x ∷ []) xs

heads-equal : (h k : Head) (xs ys : List Term) → apply_all (At h) xs ≡ apply_all (At k) ys → h ≡ k
heads-equal h k xs ys e = let q : Some h ≡ Some k = sym (apply_all-head xs (At h) tt) ∙ ap head_of e ∙ apply_all-head ys (At k) tt in cc

args-equal : (h k : Head) (xs ys : List Term) → apply_all (At h) xs ≡ apply_all (At k) ys → xs ≡ ys
args-equal h k xs ys e = sym (args-applied xs (At h) tt) ∙ ap args_of e ∙ args-applied ys (At k) tt

-- the arguments of a node
args-valid : (g : Graph) (t d : ℕ) → IsSound g → IsValid g t d → AllValidAt g (args_in (node_at g.nodes t)) d
args-valid g t d sound v = go (node_at g.nodes t) refl
  where
    go : (o : Option Node) → node_at g.nodes t ≡ o → AllValidAt g (args_in o) d
    go None e = tt
    go (Some (Con c)) e = tt
    go (Some (Int n)) e = tt
    go (Some (Str s)) e = tt
    go (Some (Level l)) e = tt
    go (Some (Lam m b)) e = tt
    go (Some (App k ts)) e = (app-valid g t d k ts sound e v).1
    go (Some (Var w)) e = tt

args-less : (g : Graph) (t : ℕ) → IsSound g → total g (args_in (node_at g.nodes t)) < tree_size (tree g t)
args-less g t sound = go (node_at g.nodes t) refl
  where
    some : 0 < tree_size (tree g t)
    some = let h = size-some (tree g t) in omega (arith, h)

    go : (o : Option Node) → node_at g.nodes t ≡ o → total g (args_in o) < tree_size (tree g t)
    go None e = some
    go (Some (Con c)) e = some
    go (Some (Int n)) e = some
    go (Some (Str s)) e = some
    go (Some (Level l)) e = some
    go (Some (Lam m b)) e = some
    go (Some (App k ts)) e = let h = app-size g t k ts sound e in omega (arith, h)
    go (Some (Var w)) e = some

-- two nodes that are heads before arguments
module _ (g : Graph) (p : Pair) (h k : Head) (ts us : List TermId) (left : ts ≡ args_in (node_at g.nodes p.left.index)) (right : us ≡ args_in (node_at g.nodes p.right.index))
    (first : read g p.left.index names ≡ apply_all (At h) (all_read g (args_in (node_at g.nodes p.left.index)))) (second : read g p.right.index names ≡ apply_all (At k) (all_read g (args_in (node_at g.nodes p.right.index)))) where
  reads-left : read g p.left.index names ≡ apply_all (At h) (all_read g ts)
  reads-left = first ∙ ap (λ (zs : List TermId). apply_all (At h) (all_read g zs)) (sym left)

  reads-right : read g p.right.index names ≡ apply_all (At k) (all_read g us)
  reads-right = second ∙ ap (λ (zs : List TermId). apply_all (At k) (all_read g zs)) (sym right)

  pub spine-heads : IsSame g p → h ≡ k
  spine-heads w = heads-equal h k (all_read g ts) (all_read g us) (sym reads-left ∙ w ∙ reads-right)

  pub spine-args : IsSame g p → all_read g ts ≡ all_read g us
  spine-args w = args-equal h k (all_read g ts) (all_read g us) (sym reads-left ∙ w ∙ reads-right)

  pub spine-counts : IsSame g p → length ts ≡ length us
  spine-counts w = sym (length-map ts (λ t. read g t.index names)) ∙ ap length (spine-args w) ∙ length-map us (λ t. read g t.index names)

  pub spines-divide : (old new : List Pair) → IsSound g → IsValidPair g p → h ≡ k → length ts ≡ length us → new ≡ old ++ reverse (pairs_of p.depth ts us) → Divides g p old new
  spines-divide old new sound v heads counts pushed = record {
    parts = reverse (pairs_of p.depth ts us);
    pushed = pushed;
    valid = valid-reverse g (pairs_of p.depth ts us)
        (lists-valid g p.depth ts us
        (subst (λ zs. AllValidAt g zs p.depth) (sym left) (args-valid g p.left.index p.depth sound v.0))
        (subst (λ zs. AllValidAt g zs p.depth) (sym right) (args-valid g p.right.index p.depth sound v.1)));
    whole = λ w. reads-left ∙ ap₂ (λ (z : Head) (zs : List Term). apply_all (At z) zs) heads (same-lists g p.depth ts us counts (same-forward g (pairs_of p.depth ts us) w)) ∙ sym reads-right;
    each = λ w. same-reverse g (pairs_of p.depth ts us) (lists-same g p.depth ts us (spine-args w));
    less =
        let turned = size-reverse g (pairs_of p.depth ts us) in
        let args = lists-size g p.depth ts us in
        let one = subst (λ zs. total g zs < tree_size (tree g p.left.index)) (sym left) (args-less g p.left.index sound) in
        let two = subst (λ zs. total g zs < tree_size (tree g p.right.index)) (sym right) (args-less g p.right.index sound) in
        omega (arith, turned, args, one, two);
  }

-- an application of a head
app-spine : (g : Graph) (t : ℕ) (k : TermId) (ts : List TermId) (h : Head) → IsSound g → node_at g.nodes t ≡ Some (App k ts) → read g k.index names ≡ At h → read g t names ≡ apply_all (At h) (all_read g (args_in (node_at g.nodes t)))
app-spine g t k ts h sound e r =
    nodes_read g t (App k ts) names sound names-places e
    ∙ ap₂ (λ (z : Term) (us : List TermId). apply_all z (all_read g us)) r (ap args_in (sym e))

pub spine-found : (g : Graph) (t : ℕ) (k : TermId) (ts : List TermId) (o : Option RigidHead) → IsSound g → node_at g.nodes t ≡ Some (App k ts) → IfSome o (λ h. read g k.index names ≡ At (rigid_head h)) → IfSome o (λ h. read g t names ≡ apply_all (At (rigid_head h)) (all_read g (args_in (node_at g.nodes t))))
spine-found g t k ts None sound e r = tt
spine-found g t k ts (Some h) sound e r = app-spine g t k ts (rigid_head h) sound e r

pub head-below : (g : Graph) (t : ℕ) (k : TermId) (ts : List TermId) → IsSound g → node_at g.nodes t ≡ Some (App k ts) → k.index < length g.nodes
head-below g t k ts sound e = (parts-there g t (App k ts) sound e).0
