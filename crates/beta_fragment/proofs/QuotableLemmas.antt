-- Terms that can be quoted: readings and their applications have no free index, and no name from a depth on.
use Rattle.std.proofs.Common.{◌≡◌, ℕ, zero, suc, ◌<◌, ◌≤◌, List, [], ◌∷◌, length, slice_index, cond, nat_lt, Bool, true, false, refl, sym, ap, ap₂, ◌∙◌, arith, subst, ne_eqb}
use mathlib.Core.Path.{fun_ext}
use Rattle.level_terms.specs.declared.node.TermId.{TermId}
use Rattle.level_terms.specs.Graph.{Graph}
use Rattle.level_terms.specs.Sound.{IsSound}
use Rattle.level_terms.specs.Valid.{IsValid}
use Rattle.level_terms.specs.Reading.{read}
use Rattle.level_terms.proofs.LocalLemmas.{HasNoIndex, readings_local}
use Rattle.ref_terms.specs.terms.Term as term
use Rattle.ref_terms.specs.terms.Term.{Term, Head, At}
use Rattle.ref_terms.specs.terms.Index.{ren, up}
use Rattle.ref_terms.specs.terms.Apply.{apply}
use Rattle.ref_terms.specs.terms.Built.{IsBuilt}
use Rattle.ref_terms.specs.terms.Occurs.{has_name}
use Rattle.ref_terms.specs.unification.Spine.{apply_all}
use Rattle.ref_terms.specs.lemmas.TermLemmas.{ren_sub}
use Rattle.ref_terms.specs.lemmas.ComposeLemmas.{ren-apply}
use Rattle.ref_terms.specs.lemmas.FillLemmas.{built-apply}
use Rattle.ref_terms.specs.lemmas.NameLemmas.{nameless-apply}
use Rattle.beta_fragment.specs.Names.{names, renamed, AllBelow}
use Rattle.beta_fragment.specs.HeadForm.{AllValidAt, all_read}
use Rattle.beta_fragment.specs.Moves.{Lacks}
use Rattle.beta_fragment.specs.Quoted.{AllIndicesBelow, AllHeads, IsOpenHead}
use Rattle.beta_fragment.specs.inside.Settled.{IsQuotable}
use Rattle.level_terms.proofs.ReadLemmas.{read-built, read-follows}
use Rattle.level_terms.proofs.MakeLemmas.{below_true}
use Rattle.beta_fragment.proofs.NamelessLemmas.{nameless-read}

-- each index from a number on, one further out
abbrev past : ℕ → ℕ → ℕ
past zero i = suc i
past (suc k) i = up (past k) i

past-below : (k i : ℕ) → past k i ≡ i → i < k
past-below zero i e = absurd (omega (arith, e))
past-below (suc k) zero e = omega arith
past-below (suc k) (suc i) e =
    let q : suc (past k i) ≡ suc i = e in
    let less = past-below k i (omega (arith, q)) in
    omega (arith, less)

-- indices that none of these stays at lie below the number
indices-below : (k : ℕ) (t : Term) → ren (past k) t ≡ t → AllIndicesBelow k t
indices-below k (term.Lam b) e = indices-below (suc k) b (let q : term.Lam (ren (past (suc k)) b) ≡ term.Lam b = e in cc)
indices-below k (At (term.Bound i)) e = past-below k i (let q : At (term.Bound (past k i)) ≡ At (term.Bound i) = e in cc)
indices-below k (At (term.Con c)) e = tt
indices-below k (At (term.Int c)) e = tt
indices-below k (At (term.Str c)) e = tt
indices-below k (At (term.Name c)) e = tt
indices-below k (At (term.Var c)) e = tt
indices-below k (term.App f a) e =
    let q : term.App (ren (past k) f) (ren (past k) a) ≡ term.App f a = e in
    (indices-below k f (cc), indices-below k a (cc))

pub no_index-closed : (t : Term) → HasNoIndex t → AllIndicesBelow 0 t
no_index-closed t h = indices-below 0 t (h (past 0))

-- readings with names for the levels
no_index-read : (g : Graph) → IsSound g → (t : ℕ) (env : ℕ → Term) → ((i : ℕ) → HasNoIndex (env i)) → HasNoIndex (read g t env)
no_index-read g s t env w f =
    ren_sub f (read g t env)
    ∙ read-follows g s t env (λ i. At (term.Bound (f i))) (λ i. tt)
    ∙ ap (read g t) (fun_ext (λ i. sym (ren_sub f (env i)) ∙ w i f))

no_index-all : (g : Graph) → IsSound g → (ts : List TermId) (t : Term) → HasNoIndex t → HasNoIndex (apply_all t (all_read g ts))
no_index-all g s [] t w = w
no_index-all g s (a ∷ ts) t w = no_index-all g s ts (apply t (read g a.index names)) (λ f. ren-apply f t (read g a.index names) ∙ ap₂ apply (w f) (no_index-read g s a.index names (λ i h. refl) f))

built-all : (g : Graph) (ts : List TermId) (t : Term) → IsBuilt t → IsBuilt (apply_all t (all_read g ts))
built-all g [] t w = w
built-all g (a ∷ ts) t w = built-all g ts (apply t (read g a.index names)) (built-apply t (read g a.index names) w (read-built g a.index names))

-- the levels below a depth alone
abbrev part : ℕ → (ℕ → Term) → ℕ → Term
part d env i = cond (nat_lt i d) (env i) (At (term.Bound 0))

part-same : (d : ℕ) (env : ℕ → Term) (i : ℕ) → i < d → env i ≡ part d env i
part-same d env i h = sym (ap (λ b. cond b (env i) (At (term.Bound 0))) (below_true i d h))

part-lacks : (n d : ℕ) (env : ℕ → Term) → ((i : ℕ) → i < d → has_name n (env i) ≡ false) → Lacks n (part d env)
part-lacks n d env w i = go (nat_lt i d) refl
  where
    go : (b : Bool) → nat_lt i d ≡ b → has_name n (cond b (env i) (At (term.Bound 0))) ≡ false
    go true e = let lt : i < d = grind (arith, e) in w i lt
    go false e = refl

pub nameless-valid : (n : ℕ) (g : Graph) (t d : ℕ) (env : ℕ → Term) → IsValid g t d → ((i : ℕ) → i < d → has_name n (env i) ≡ false) → has_name n (read g t env) ≡ false
nameless-valid n g t d env v w =
    ap (has_name n) (readings_local g t d env (part d env) v (part-same d env)) ∙ nameless-read n g t (part d env) (part-lacks n d env w)

nameless-all : (n : ℕ) (g : Graph) (depth : ℕ) → depth ≤ n → (ts : List TermId) (t : Term) → AllValidAt g ts depth → has_name n t ≡ false → has_name n (apply_all t (all_read g ts)) ≡ false
nameless-all n g depth l [] t v w = w
nameless-all n g depth l (a ∷ ts) t v w = nameless-all n g depth l ts (apply t (read g a.index names)) v.1
    (nameless-apply n t (read g a.index names) w (nameless-valid n g a.index depth names v.0 (λ i h. ne_eqb n i (omega (arith, h, l)))))

-- a reading before arguments
pub quotable-spine : (g : Graph) (depth head : ℕ) (ls : List ℕ) (args : List TermId) (x : Term) → IsSound g → IsValid g head (length ls) → AllBelow ls depth → AllValidAt g args depth →
    x ≡ apply_all (read g head (renamed ls)) (all_read g args) → AllHeads (IsOpenHead g) x → IsQuotable g depth x
quotable-spine g depth head ls args x s v all w e heads = record {
  built = subst IsBuilt (sym e) (built-all g args (read g head (renamed ls)) (read-built g head (renamed ls)));
  closed = subst (AllIndicesBelow 0) (sym e) (no_index-closed (apply_all (read g head (renamed ls)) (all_read g args)) (no_index-all g s args (read g head (renamed ls)) (no_index-read g s head (renamed ls) (λ i h. refl))));
  low = λ n l. ap (has_name n) e ∙ nameless-all n g depth l args (read g head (renamed ls)) w
      (nameless-valid n g head (length ls) (renamed ls) v (λ i h. (let lt = all i h in ne_eqb n (slice_index ls i) (omega (arith, lt, l)))));
  variables = heads;
}
