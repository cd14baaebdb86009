-- A variable that has no value, under the names of a goal.
use mathlib.Core.Path.{fun_ext}
use Rattle.std.proofs.Common.{◌≡◌, ℕ, zero, suc, ◌+◌, List, ◌∷◌, map, refl, ap, ap₂, ◌∙◌, arith}
use Rattle.level_terms.specs.Reading.{levels}
use Rattle.level_terms.specs.Values.{Value, IsVarOf}
use Rattle.ref_terms.specs.terms.Term.{Term, At, Name, Var}
use Rattle.ref_terms.specs.unification.Closing.{up_from, names_below}
use Rattle.ref_terms.specs.unification.Spine.{apply_all}
use Rattle.ref_terms.specs.search.Instance.{variable_under}
use Rattle.beta_fragment.specs.Names.{names}

-- the levels below a depth stand for the names below it
levels-names : (d k : ℕ) → levels d (λ i. At (Name (k + i))) ≡ map (λ n. At (Name n)) (up_from k d)
levels-names zero k = refl
levels-names (suc d) k =
    let first : At (Name (k + 0)) ≡ At (Name k) = ap (λ n. At (Name n)) (let e : k + 0 ≡ k = omega arith in e) in
    ap₂ (λ (x : Term) (xs : List Term). x ∷ xs) first
    (ap (levels d) (fun_ext (λ i. ap (λ n. At (Name n)) (let e : k + suc i ≡ suc k + i = omega arith in e))) ∙ levels-names d (suc k))

levels-own : (d : ℕ) → levels d names ≡ map (λ n. At (Name n)) (names_below d)
levels-own d = ap (levels d) (fun_ext (λ i. ap (λ n. At (Name n)) (let e : i ≡ 0 + i = omega arith in e))) ∙ levels-names d 0

pub variable-reads : (depth v : ℕ) (x : Value) → IsVarOf v depth x → x.term names ≡ variable_under depth v
variable-reads depth v x w = w.term names (λ i. tt) ∙ ap (apply_all (At (Var v))) (levels-own depth)
