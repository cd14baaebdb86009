-- What terms in the place of indices are.
use Rattle.std.proofs.Common.{◌≡◌, ℕ, zero, suc, ◌<◌, ◌≤◌, ◌+◌, ◌-◌, refl, sym, ap, ap₂, ◌∙◌, arith, Option, Some, None, option_map, true, List, length}
use mathlib.Core.Path.{fun_ext}
use Rattle.ref_terms.specs.terms.Term as term
use Rattle.ref_terms.specs.terms.Term.{Term, Con, Bound}
use Rattle.ref_terms.specs.terms.Index.{shift, next, ren, under, sub, first}
use Rattle.ref_terms.specs.terms.Ready.{ready}
use Rattle.ref_terms.specs.terms.Eta.{both, up_partial, partial, previous, lower}
use Rattle.beta_fragment.specs.declared.answer.RigidHead.{RigidHead}
use Rattle.beta_fragment.specs.declared.answer.RigidHead.TheVariants as rigid
use Rattle.beta_fragment.specs.declared.taking.Replacement.{Replacement}
use Rattle.beta_fragment.specs.declared.taking.Replacement.TheVariants.{Part, Missing, Raised}
use Rattle.beta_fragment.specs.HeadForm.{rigid_head}
use Rattle.beta_fragment.specs.inside.Cells.{Gains}
use Rattle.beta_fragment.specs.inside.Taking.{under_some, replaced, with_first, without_first, raised_by, raised, outside, images, PartThere}
use Rattle.beta_fragment.proofs.CellLemmas.{gains-at}
use Rattle.ref_terms.specs.lemmas.TermLemmas.{ren_sub, ren-ren, ren_id}

-- where each index has a term
under-some : (s : ℕ → Term) (n : ℕ) → under_some (λ i. Some (s i)) n ≡ Some (under s n)
under-some s zero = refl
under-some s (suc n) = refl

pub replaced-some : (s : ℕ → Term) (t : Term) → replaced (λ i. Some (s i)) t ≡ Some (sub s t)
replaced-some s (term.Lam b) = ap (option_map term.Lam) (ap (λ r. replaced r b) (fun_ext (under-some s)) ∙ replaced-some (under s) b)
replaced-some s (term.At (term.Con c)) = refl
replaced-some s (term.At _) = refl
replaced-some s (term.App f a) = ap₂ both (replaced-some s f) (replaced-some s a)

-- where each index that has a term has an index
abbrev pub indices : (ℕ → Option ℕ) → ℕ → Option Term
indices p i = option_map (λ j. term.At (term.Bound j)) (p i)

under-partial : (p : ℕ → Option ℕ) (n : ℕ) → under_some (indices p) n ≡ indices (up_partial p) n
under-partial p zero = refl
under-partial p (suc n) = go (p n)
  where
    go : (o : Option ℕ) → option_map shift (option_map (λ j. term.At (term.Bound j)) o) ≡ option_map (λ j. term.At (term.Bound j)) (option_map next o)
    go None = refl
    go (Some j) = refl

pub replaced-partial : (p : ℕ → Option ℕ) (t : Term) → replaced (indices p) t ≡ partial p t
replaced-partial p (term.Lam b) = ap (option_map term.Lam) (ap (λ r. replaced r b) (fun_ext (under-partial p)) ∙ replaced-partial (up_partial p) b)
replaced-partial p (term.At (term.Con c)) = refl
replaced-partial p (term.At _) = refl
replaced-partial p (term.App f a) = ap₂ both (replaced-partial p f) (replaced-partial p a)

-- a term in the place of index 0
first-image : (x : Term) (n : ℕ) → with_first x n ≡ Some (first x n)
first-image x zero = refl
first-image x (suc n) = refl

pub opened-image : (x t : Term) → replaced (with_first x) t ≡ Some (sub (first x) t)
opened-image x t = ap (λ r. replaced r t) (fun_ext (first-image x)) ∙ replaced-some (first x) t

-- none in the place of index 0
missing-image : (n : ℕ) → without_first n ≡ indices previous n
missing-image zero = refl
missing-image (suc n) = refl

pub lowered-image : (t : Term) → replaced without_first t ≡ lower t
lowered-image t = ap (λ r. replaced r t) (fun_ext missing-image) ∙ replaced-partial previous t

-- indices that are so many higher
pub raised-image : (j : ℕ) (t : Term) → replaced (raised_by j) t ≡ Some (raised j t)
raised-image j t = replaced-some (λ n. term.At (term.Bound (n + j))) t ∙ ap Some (sym (ren_sub (λ n. n + j) t))

pub raised-none : (t : Term) → raised 0 t ≡ t
raised-none t = ap (λ f. ren f t) (fun_ext (λ n. let same : n + 0 ≡ n = omega arith in same)) ∙ ren_id t

pub raised-more : (k : ℕ) (t : Term) → shift (raised k t) ≡ raised (suc k) t
raised-more k t = ren-ren (λ n. n + k) next t ∙ ap (λ f. ren f t) (fun_ext (λ n. let same : suc (n + k) ≡ n + suc k = omega arith in same))

-- the terms for indices under abstractions
pub image-inside : (ts : List Term) (put : Replacement) (k i : ℕ) → i < k → images ts put k i ≡ Some (term.At (term.Bound i))
image-inside ts put zero i h = absurd (omega (arith, h))
image-inside ts put (suc k) zero h = refl
image-inside ts put (suc k) (suc i) h = ap (option_map shift) (image-inside ts put k i (omega (arith, h)))

raised-some_none : (o : Option Term) → o ≡ option_map (raised 0) o
raised-some_none None = refl
raised-some_none (Some x) = ap Some (sym (raised-none x))

raised-some_more : (k : ℕ) (o : Option Term) → option_map shift (option_map (raised k) o) ≡ option_map (raised (suc k)) o
raised-some_more k None = refl
raised-some_more k (Some x) = ap Some (raised-more k x)

image-beyond : (ts : List Term) (put : Replacement) (k m : ℕ) → images ts put k (m + k) ≡ option_map (raised k) (outside ts put m)
image-beyond ts put zero m =
    let same : m + 0 ≡ m = omega arith in
    ap (outside ts put) same ∙ raised-some_none (outside ts put m)
image-beyond ts put (suc k) m =
    let same : m + suc k ≡ suc (m + k) = omega arith in
    ap (images ts put (suc k)) same ∙ ap (option_map shift) (image-beyond ts put k m) ∙ raised-some_more k (outside ts put m)

pub image-at : (ts : List Term) (put : Replacement) (k i m : ℕ) → i ≡ m + k → images ts put k i ≡ option_map (raised k) (outside ts put m)
image-at ts put k i m e = ap (images ts put k) e ∙ image-beyond ts put k m

pub image-lower_part : (ts : List Term) (p k i : ℕ) → k < i → images ts (Part p) k i ≡ Some (term.At (term.Bound (i - 1)))
image-lower_part ts p k i h =
    let here : i ≡ suc (i - k - 1) + k = omega (arith, h) in
    let there : i - k - 1 + k ≡ i - 1 = omega (arith, h) in
    image-at ts (Part p) k i (suc (i - k - 1)) here ∙ ap (λ n. Some (term.At (term.Bound n))) there

pub image-lower_missing : (ts : List Term) (k i : ℕ) → k < i → images ts Missing k i ≡ Some (term.At (term.Bound (i - 1)))
image-lower_missing ts k i h =
    let here : i ≡ suc (i - k - 1) + k = omega (arith, h) in
    let there : i - k - 1 + k ≡ i - 1 = omega (arith, h) in
    image-at ts Missing k i (suc (i - k - 1)) here ∙ ap (λ n. Some (term.At (term.Bound n))) there

-- they stay as terms are added
outside-stays : (ts old : List Term) (put : Replacement) → Gains ts old → PartThere (length ts) put → outside old put ≡ outside ts put
outside-stays ts old (Part p) g h = ap with_first (gains-at ts old g p h)
outside-stays ts old Missing g h = refl
outside-stays ts old (Raised j) g h = refl

pub images-stay : (ts old : List Term) (put : Replacement) (k : ℕ) → Gains ts old → PartThere (length ts) put → images old put k ≡ images ts put k
images-stay ts old put zero g h = outside-stays ts old put g h
images-stay ts old put (suc k) g h = ap under_some (images-stay ts old put k g h)

-- a rigid head stays
pub rigid-stays : (s : ℕ → Option Term) (h : RigidHead) → replaced s (term.At (rigid_head h)) ≡ Some (term.At (rigid_head h))
rigid-stays s (rigid.Con c) = refl
rigid-stays s (rigid.Int c) = refl
rigid-stays s (rigid.Str c) = refl
rigid-stays s (rigid.Level c) = refl

-- and is ready
pub rigid-ready : (h : RigidHead) → ready (term.At (rigid_head h)) ≡ true
unfolding ready
rigid-ready (rigid.Con c) = refl
rigid-ready (rigid.Int c) = refl
rigid-ready (rigid.Str c) = refl
rigid-ready (rigid.Level c) = refl

-- an application is ready where its function is
pub ready-app : (f a : Term) → ready (term.App f a) ≡ ready f
unfolding ready
ready-app f a = refl
