-- Replacing bound names in trees.
use Rattle.std.proofs.Common.{◌≡◌, ◌∙◌, ℕ, suc, List, [], ◌∷◌, Option, Some, None, map, ap, sym, refl}
use Rattle.std.specs.Option.{option_map}
use Rattle.ref_terms.specs.terms.Term as term
use Rattle.ref_terms.specs.terms.Term.{Term}
use Rattle.ref_terms.specs.terms.Eta.{partial, up_partial}
use Rattle.ref_terms.specs.declared.tree.Tree.{Tree}
use Rattle.ref_terms.specs.declared.tree.Tree.TheVariants.{Lam, Ap}
use Rattle.ref_terms.specs.declared.tree.Head.{Head}
use Rattle.lp_resolve.specs.Trees.{as_term, head_term, with_arguments}
use Rattle.lp_resolve.specs.inside.Build.{all_terms}
use Rattle.lp_resolve.proofs.Replacing.{with_all, partial-arguments}
use Rattle.lp_resolve.proofs.TreeForms.{term-lam, term-ap}

-- the abstraction of a body, where there is one
abbrev pub lam_tree : Option Tree → Option Tree
lam_tree o = option_map (λ b. Lam b) o

-- the head with its arguments, where there are both
abbrev pub ap_tree : Option Head → Option (List Tree) → Option Tree
ap_tree None args = None
ap_tree (Some h) args = option_map (λ ts. Ap h ts) args

-- an abstraction
pub replaced-lam : (p : ℕ → Option ℕ) (tree body : Tree) (answer : Option Tree) → tree ≡ Lam body
    → option_map as_term answer ≡ partial (up_partial p) (as_term body) → option_map as_term (lam_tree answer) ≡ partial p (as_term tree)
replaced-lam p tree body answer is inside = of answer ∙ ap (option_map term.Lam) inside ∙ sym (ap (partial p) (ap as_term is ∙ term-lam body)) where
  of : (o : Option Tree) → option_map as_term (lam_tree o) ≡ option_map term.Lam (option_map as_term o)
  of None = refl
  of (Some b) = ap Some (term-lam b)

-- mapping twice
pub map-twice : {A B C : Type 0} (f : B → C) (g : A → B) (xs : List A) → map f (map g xs) ≡ map (λ x. f (g x)) xs
map-twice f g [] = refl
map-twice f g (x ∷ xs) = ap (λ ys. f (g x) ∷ ys) (map-twice f g xs)

-- a head with its arguments
pub replaced-ap : (p : ℕ → Option ℕ) (tree : Tree) (head : Head) (args : List Tree) (h : Option Head) (rest : Option (List Tree)) → tree ≡ Ap head args
    → option_map head_term h ≡ partial p (head_term head) → option_map (map as_term) rest ≡ all_terms (map (λ t. partial p (as_term t)) args)
    → option_map as_term (ap_tree h rest) ≡ partial p (as_term tree)
replaced-ap p tree head args h rest is eh es =
    of h rest ∙ ap (λ o. with_all o (option_map (map as_term) rest)) eh ∙ ap (with_all (partial p (head_term head))) (es ∙ ap all_terms (sym (map-twice (partial p) as_term args)))
    ∙ sym (partial-arguments p (head_term head) (map as_term args)) ∙ sym (ap (partial p) (ap as_term is ∙ term-ap head args)) where
      of : (h : Option Head) (ts : Option (List Tree)) → option_map as_term (ap_tree h ts) ≡ with_all (option_map head_term h) (option_map (map as_term) ts)
      of None ts = refl
      of (Some g) None = refl
      of (Some g) (Some ts) = ap Some (term-ap g ts)

-- no head, no tree
pub replaced-headless : (p : ℕ → Option ℕ) (tree : Tree) (head : Head) (args : List Tree) → tree ≡ Ap head args → None ≡ partial p (head_term head) → None ≡ partial p (as_term tree)
replaced-headless p tree head args is none =
    ap (λ o. with_all o (all_terms (map (partial p) (map as_term args)))) none ∙ sym (partial-arguments p (head_term head) (map as_term args)) ∙ sym (ap (partial p) (ap as_term is ∙ term-ap head args))

-- a head with its arguments, as terms
pub replaced-terms : (p : ℕ → Option ℕ) (head : Head) (args : List Tree) (h : Option Head) (rest : Option (List Tree))
    → option_map head_term h ≡ partial p (head_term head) → option_map (map as_term) rest ≡ all_terms (map (λ t. partial p (as_term t)) args)
    → option_map as_term (ap_tree h rest) ≡ partial p (with_arguments (head_term head) (map as_term args))
replaced-terms p head args h rest eh es = replaced-ap p (Ap head args) head args h rest refl eh es ∙ ap (partial p) (term-ap head args)

-- no head, no term
pub headless-terms : (p : ℕ → Option ℕ) (head : Head) (args : List Tree) → None ≡ partial p (head_term head) → None ≡ partial p (with_arguments (head_term head) (map as_term args))
headless-terms p head args none = replaced-headless p (Ap head args) head args refl none ∙ ap (partial p) (term-ap head args)
