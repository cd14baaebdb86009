-- Replacing bound names.
use Rattle.std.proofs.Common.{◌≡◌, ◌∙◌, ℕ, zero, suc, ◌+◌, ◌-◌, ◌<◌, List, [], ◌∷◌, ◌++◌, Option, Some, None, map, ap, sym, refl, arith}
use Rattle.std.specs.Option.{option_map}
use Rattle.ref_terms.specs.terms.Term.{Term, Head, Con, Int, Str, Name, Bound, Var, Lam, At, App}
use Rattle.ref_terms.specs.terms.Index.{sub, first, under, shift, next}
use Rattle.ref_terms.specs.terms.Eta.{partial, partial_head, up_partial, both}
use Rattle.lp_resolve.specs.inside.Replacing.{replaced, replacing}
use Rattle.lp_resolve.specs.Trees.{with_arguments}
use Rattle.lp_resolve.specs.inside.Build.{all_terms, with_first}

-- a name that is bound further in
pub replacing-below : (d : ℕ) (o : Option ℕ) (i : ℕ) → i < d → replacing d o i ≡ Some i
replacing-below zero o i h = absurd (omega arith)
replacing-below (suc d) o zero h = refl
replacing-below (suc d) o (suc i) h = let e = replacing-below d o i (omega arith) in ap (option_map next) e

-- the name itself
pub replacing-here : (d : ℕ) (o : Option ℕ) → replacing d o d ≡ option_map (λ t. t + d) o
replacing-here zero None = refl
replacing-here zero (Some t) = ap Some (omega arith)
replacing-here (suc d) None = ap (option_map next) (replacing-here d None)
replacing-here (suc d) (Some t) = ap (option_map next) (replacing-here d (Some t)) ∙ ap Some (omega arith)

-- a name that is bound further out
pub replacing-above : (d : ℕ) (o : Option ℕ) (i : ℕ) → d < i → replacing d o i ≡ Some (i - 1)
replacing-above zero o zero h = absurd (omega arith)
replacing-above zero o (suc i) h = ap Some (omega arith)
replacing-above (suc d) o zero h = absurd (omega arith)
replacing-above (suc d) o (suc i) h = ap (option_map next) (replacing-above d o i (omega arith)) ∙ ap Some (omega arith)

-- a term with arguments, where all are there
abbrev pub with_all : Option Term → Option (List Term) → Option Term
with_all None ts = None
with_all (Some f) ts = option_map (with_arguments f) ts

-- a term with its arguments renamed
pub partial-arguments : (p : ℕ → Option ℕ) (f : Term) (ts : List Term) → partial p (with_arguments f ts) ≡ with_all (partial p f) (all_terms (map (partial p) ts))
partial-arguments p f [] = none-more (partial p f) where
  none-more : (o : Option Term) → o ≡ with_all o (Some [])
  none-more None = refl
  none-more (Some g) = refl
partial-arguments p f (t ∷ ts) = partial-arguments p (App f t) ts ∙ one-more (partial p f) (partial p t) (all_terms (map (partial p) ts)) where
  one-more : (f t : Option Term) (ts : Option (List Term)) → with_all (both f t) ts ≡ with_all f (with_first t ts)
  one-more None None ts = refl
  one-more None (Some t) ts = refl
  one-more (Some f) None ts = refl
  one-more (Some f) (Some t) None = refl
  one-more (Some f) (Some t) (Some ts) = refl
