-- Entering an abstraction.
use Rattle.std.proofs.Common.{◌≡◌, ℕ, zero, suc, cond, nat_eq, nat_lt, Bool, true, false, Option, Some, refl, sym, ap, ◌∙◌, subst, eqb-true}
use mathlib.Core.Path.{fun_ext}
use Rattle.level_terms.specs.declared.node.Node.{Node}
use Rattle.level_terms.specs.declared.node.Node.TheVariants.{Lam}
use Rattle.level_terms.specs.declared.node.TermId.{TermId}
use Rattle.level_terms.specs.Graph.{Graph, node_at}
use Rattle.level_terms.specs.Laws.{IsPlace, ArePlaces}
use Rattle.level_terms.specs.Sound.{IsSound}
use Rattle.level_terms.specs.Valid.{IsValid}
use Rattle.level_terms.specs.Reading.{read, enter}
use Rattle.level_terms.proofs.LocalLemmas.{and_right}
use Rattle.level_terms.proofs.SubLemmas.{at_level}
use Rattle.level_terms.proofs.NodeLemmas.{nodes_read}
use Rattle.level_terms.proofs.ValidLemmas.{nodes_valid}
use Rattle.ref_terms.specs.terms.Term as term
use Rattle.ref_terms.specs.terms.Term.{Term, At}
use Rattle.ref_terms.specs.terms.Index.{sub, first, shift, next}
use Rattle.ref_terms.specs.terms.Apply.{apply}
use Rattle.ref_terms.specs.lemmas.FillLemmas.{apply-lam}
use Rattle.ref_terms.specs.lemmas.TermLemmas.{sub-ren, sub_id}
use Rattle.beta_fragment.specs.Names.{names}
use Rattle.beta_fragment.specs.Body.{IsLamAt}
use Rattle.level_terms.proofs.ReadLemmas.{read-built, read-follows, places-ready}

-- the term in place of index 0, the others one lower
pub first-places : (x : Term) → IsPlace x → ArePlaces (first x)
first-places x p zero = p
first-places x p (suc n) = tt

pub entered : (d : ℕ) (x : Term) (env : ℕ → Term) (i : ℕ) → sub (first x) (enter d env i) ≡ at_level d x env i
entered d x env i = go (nat_eq d i)
  where
    go : (b : Bool) → sub (first x) (cond b (At (term.Bound 0)) (shift (env i))) ≡ cond b x (env i)
    go true = refl
    go false = sub-ren (first x) next (env i) ∙ sub_id (env i)

-- an abstraction applied to a name or an index is its body with that at its level
pub body-applied : (g : Graph) → IsSound g → (t d : ℕ) (b : TermId) → node_at g.nodes t ≡ Some (Lam d b) → (env : ℕ → Term) → ArePlaces env → (x : Term) → IsPlace x →
    apply (read g t env) x ≡ read g b.index (at_level d x env)
body-applied g s t d b e env p x q =
    ap (λ f. apply f x) (nodes_read g t (Lam d b) env s p e)
    ∙ apply-lam (read g b.index (enter d env)) x (read-built g b.index (enter d env)) (places-ready (first x) (first-places x q) 0)
    ∙ read-follows g s b.index (enter d env) (first x) (first-places x q)
    ∙ ap (read g b.index) (fun_ext (entered d x env))

own-level : (d i : ℕ) → at_level d (names d) names i ≡ names i
own-level d i = go (nat_eq d i) refl
  where
    go : (b : Bool) → nat_eq d i ≡ b → cond b (names d) (names i) ≡ names i
    go true e = ap names (eqb-true d i e)
    go false e = refl

pub names-places : ArePlaces names
names-places i = tt

-- the body of an abstraction reads as it applied to its own name
pub body-entered : (g : Graph) → IsSound g → (t d : ℕ) (b : TermId) → node_at g.nodes t ≡ Some (Lam d b) → read g b.index names ≡ apply (read g t names) (names d)
body-entered g s t d b e = sym (body-applied g s t d b e names names-places (names d) tt ∙ ap (read g b.index) (fun_ext (own-level d)))

-- what an abstraction's validity says
pub body-valid : (g : Graph) → IsSound g → (t d : ℕ) (b : TermId) (depth : ℕ) → node_at g.nodes t ≡ Some (Lam d b) → IsValid g t depth → IsValid g b.index (suc d)
body-valid g s t d b depth e h = and_right (nat_lt d (suc depth)) _ (sym (nodes_valid g t (Lam d b) depth s e) ∙ h)

made-at : (depth d : ℕ) (b : TermId) (o : Option Node) → IsLamAt depth o → o ≡ Some (Lam d b) → d ≡ depth
made-at depth d b o w e = subst (IsLamAt depth) e w

pub enter-made : (g : Graph) (t depth d : ℕ) (b : TermId) → IsLamAt depth (node_at g.nodes t) → node_at g.nodes t ≡ Some (Lam d b) → d ≡ depth
enter-made g t depth d b w e = made-at depth d b (node_at g.nodes t) w e
