-- The least depths at which nodes are valid.
use Rattle.std.proofs.Common.{◌≡◌, ℕ, suc, ◌≤◌, ◌<◌, ◌++◌, List, [], ◌∷◌, length, cond, nat_eq, nat_lt, Bool, true, false, Some, None, slice_index, sym, ◌∙◌, arith, subst}
use Rattle.level_terms.specs.declared.node.Node.{Node}
use Rattle.level_terms.specs.declared.node.Node.TheVariants.{Con, Int, Str, Level, Lam, App, Var}
use Rattle.level_terms.specs.declared.node.TermId.{TermId}
use Rattle.level_terms.specs.declared.node.VarId.{VarId}
use Rattle.ref_terms.specs.declared.sym.Sym.{Sym}
use Rattle.level_terms.specs.Graph.{Graph, node_at}
use Rattle.level_terms.specs.Sound.{IsSound, IsMade, AllMade}
use Rattle.beta_fragment.specs.HeadForm.{AllValidAt}
use Rattle.level_terms.specs.Valid.{IsValid}
use Rattle.level_terms.proofs.LocalLemmas.{and_right}
use Rattle.level_terms.proofs.ValidLemmas.{nodes_valid}
use Rattle.std.specs.Prelude.{ℤ}
use Rattle.level_terms.proofs.MakeLemmas.{and_both, below_true}
use Rattle.beta_fragment.proofs.MoveLemmas.{below_from, app-valid}

pub lam-stays : (g : Graph) (t d : ℕ) (b : TermId) (s : ℕ) → IsSound g → node_at g.nodes t ≡ Some (Lam d b) → IsValid g t s → IsValid g t d
lam-stays g t d b s sound e v = nodes_valid g t (Lam d b) d sound e ∙ and_both (nat_lt d (suc d)) _ (below_true d (suc d) (omega arith)) (and_right (nat_lt d (suc s)) _ (sym (nodes_valid g t (Lam d b) s sound e) ∙ v))

pub var-stays : (g : Graph) (t : ℕ) (x : VarId) (d s : ℕ) → IsSound g → node_at g.nodes t ≡ Some (Var x) → d ≡ slice_index g.depths x.index → IsValid g t s → IsValid g t d
var-stays g t x d s sound e q v = nodes_valid g t (Var x) d sound e ∙ below_true (slice_index g.depths x.index) (suc d) (omega (arith, q))

pub con-stays : (g : Graph) (t : ℕ) (c : Sym) → IsSound g → node_at g.nodes t ≡ Some (Con c) → IsValid g t 0
con-stays g t c sound e = nodes_valid g t (Con c) 0 sound e

pub int-stays : (g : Graph) (t : ℕ) (n : ℤ) → IsSound g → node_at g.nodes t ≡ Some (Int n) → IsValid g t 0
int-stays g t n sound e = nodes_valid g t (Int n) 0 sound e

pub str-stays : (g : Graph) (t : ℕ) (s : Sym) → IsSound g → node_at g.nodes t ≡ Some (Str s) → IsValid g t 0
str-stays g t s sound e = nodes_valid g t (Str s) 0 sound e

-- an application has arguments
long-made : (variables : ℕ) (t : ℕ) (k : TermId) (ts : List TermId) (nodes : List Node) → AllMade variables nodes → node_at nodes t ≡ Some (App k ts) → 0 < length ts
long-made variables t k ts [] m q = absurd (let z : None ≡ Some (App k ts) = q in cc)
long-made variables t k ts (n ∷ older) m q = at (nat_eq (length older) t) q (λ z. long-made variables t k ts older m.1 z)
  where
    at : (b : Bool) → cond b (Some n) (node_at older t) ≡ Some (App k ts) → (node_at older t ≡ Some (App k ts) → 0 < length ts) → 0 < length ts
    at true z f = let same : n ≡ App k ts = cc in (subst (IsMade older variables) same m.0).3
    at false z f = f z

pub app-long : (g : Graph) (t : ℕ) (k : TermId) (ts : List TermId) → IsSound g → node_at g.nodes t ≡ Some (App k ts) → 0 < length ts
app-long g t k ts s e = long-made (length g.depths) t k ts g.nodes s.made e

last-of-valid : (g : Graph) (s : ℕ) (front : List TermId) (u : TermId) → AllValidAt g (front ++ u ∷ []) s → IsValid g u.index s
last-of-valid g s [] u w = w.0
last-of-valid g s (x ∷ front) u w = last-of-valid g s front u w.1

pub last-valid : (g : Graph) (t s : ℕ) (k u : TermId) (ts front : List TermId) → IsSound g → node_at g.nodes t ≡ Some (App k ts) → ts ≡ front ++ u ∷ [] → IsValid g t s → IsValid g u.index s
last-valid g t s k u ts front sound e split v = last-of-valid g s front u (subst (λ us. AllValidAt g us s) split (app-valid g t s k ts sound e v).1)

pub var-low : (g : Graph) (t : ℕ) (v : VarId) (s : ℕ) → IsSound g → node_at g.nodes t ≡ Some (Var v) → IsValid g t s → slice_index g.depths v.index ≤ s
var-low g t v s sound e h = let k : slice_index g.depths v.index < suc s = below_from (slice_index g.depths v.index) (suc s) (sym (nodes_valid g t (Var v) s sound e) ∙ h) in omega (arith, k)

pub level-low : (g : Graph) (t l s : ℕ) → IsSound g → node_at g.nodes t ≡ Some (Level l) → IsValid g t s → l < s
level-low g t l s sound e h = below_from l s (sym (nodes_valid g t (Level l) s sound e) ∙ h)
