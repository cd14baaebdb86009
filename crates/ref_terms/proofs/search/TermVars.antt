-- What the search asks of a term, where its variables are renamed.
use Rattle.std.proofs.Common.{◌≡◌, ℕ, Bool, true, false, cond, ◌&&◌, nat_eq, List, [], ◌∷◌, ◌++◌, map, refl, ap, ap₂, ◌∙◌, Option, Some, None, option_map, arith}
use Rattle.std.proofs.lemmas.Bool.{le-ltb}
use Rattle.ref_terms.specs.terms.Term.{Term, Lam, At, App, Head, Con, Int, Str, Name, Bound, Var}
use Rattle.ref_terms.specs.terms.Renamed.{vars, vars_head}
use Rattle.ref_terms.specs.unification.Spine.{args_of, head_of}
use Rattle.ref_terms.specs.unification.Shape.{Shape, Abstraction, Redex, Rigid, Flex, headed, shape}
use Rattle.ref_terms.specs.unification.Rules.{head_eq}
use Rattle.ref_terms.specs.search.Program.{constant_of}
use Rattle.ref_terms.specs.search.Lists.{item_of, before, items_of}
use Rattle.ref_terms.specs.search.Value.{term_eq, shape_is_flex, is_flex, is_bare_name}
use Rattle.ref_terms.proofs.unification.RenamedLemmas.{args-vars, head-vars}

-- variables that are equal after renaming were equal before
abbrev pub IsOneToOne : (ℕ → ℕ) → Type 0
IsOneToOne p = (a b : ℕ) → nat_eq (p a) (p b) ≡ nat_eq a b

-- a shape with its variables renamed
abbrev pub shape_vars : (ℕ → ℕ) → Shape → Shape
shape_vars p Abstraction = Abstraction
shape_vars p Redex = Redex
shape_vars p (Rigid h xs) = Rigid (vars_head p h) (map (vars p) xs)
shape_vars p (Flex v xs) = Flex (p v) (map (vars p) xs)

module _ (p : ℕ → ℕ) where
  -- no variable is frozen
  headed-vars : (o : Option Head) (xs : List Term) → headed 0 (option_map (vars_head p) o) (map (vars p) xs) ≡ shape_vars p (headed 0 o xs)
  headed-vars None xs = refl
  headed-vars (Some (Var v)) xs = rw (le-ltb (p v) 0 (omega arith), le-ltb v 0 (omega arith)) refl
  headed-vars (Some (Con c)) xs = refl
  headed-vars (Some _) xs = refl

  pub shape-vars : (t : Term) → shape 0 (vars p t) ≡ shape_vars p (shape 0 t)
  shape-vars (Lam b) = refl
  shape-vars (At h) = headed-vars (Some h) []
  shape-vars (App f a) = ap₂ (headed 0) (head-vars p f) (args-vars p (App f a)) ∙ headed-vars (head_of f) (args_of f ++ a ∷ [])

  flex-shape-vars : (s : Shape) → shape_is_flex (shape_vars p s) ≡ shape_is_flex s
  flex-shape-vars Abstraction = refl
  flex-shape-vars Redex = refl
  flex-shape-vars (Rigid h xs) = refl
  flex-shape-vars (Flex v xs) = refl

  pub is_flex-vars : (t : Term) → is_flex (vars p t) ≡ is_flex t
  is_flex-vars t = ap shape_is_flex (shape-vars t) ∙ flex-shape-vars (shape 0 t)

  pub is_bare_name-vars : (t : Term) → is_bare_name (vars p t) ≡ is_bare_name t
  is_bare_name-vars (At (Name n)) = refl
  is_bare_name-vars (At (Con n)) = refl
  is_bare_name-vars (At _) = refl
  is_bare_name-vars (Lam b) = refl
  is_bare_name-vars (App f a) = refl

  constant_of-head-vars : (o : Option Head) → constant_of (option_map (vars_head p) o) ≡ constant_of o
  constant_of-head-vars None = refl
  constant_of-head-vars (Some (Con c)) = refl
  constant_of-head-vars (Some (Int c)) = refl
  constant_of-head-vars (Some _) = refl

  pub constant-vars : (t : Term) → constant_of (head_of (vars p t)) ≡ constant_of (head_of t)
  constant-vars t = ap constant_of (head-vars p t) ∙ constant_of-head-vars (head_of t)

  -- lists
  item-vars : (t : Term) → item_of (vars p t) ≡ option_map (vars p) (item_of t)
  item-vars (App (At (Con c)) t) = go (nat_eq c 19)
    where
      go : (b : Bool) → cond b (Some (vars p t)) None ≡ option_map (vars p) (cond b (Some t) None)
      go true = refl
      go false = refl
  item-vars (App (At (Int c)) t) = refl
  item-vars (App (At _) t) = refl
  item-vars (App (Lam b) t) = refl
  item-vars (App (App f a) t) = refl
  item-vars (At h) = refl
  item-vars (Lam b) = refl

  before-vars : (o : Option Term) (q : Option (List Term)) → before (option_map (vars p) o) (option_map (map (vars p)) q) ≡ option_map (map (vars p)) (before o q)
  before-vars None q = refl
  before-vars (Some t) None = refl
  before-vars (Some t) (Some ts) = refl

  pub items-vars : (t : Term) → items_of (vars p t) ≡ option_map (map (vars p)) (items_of t)
  items-vars (Lam b) = refl
  items-vars (At (Con c)) = go (nat_eq c 18)
    where
      go : (b : Bool) → cond {A = Option (List Term)} b (Some []) None ≡ option_map (map (vars p)) (cond b (Some []) None)
      go true = refl
      go false = refl
  items-vars (At (Int c)) = refl
  items-vars (At _) = refl
  items-vars (App f t) = ap₂ before (item-vars f) (items-vars t) ∙ before-vars (item_of f) (items_of t)

  module _ (one : IsOneToOne p) where
    head_eq-vars : (h k : Head) → head_eq (vars_head p h) (vars_head p k) ≡ head_eq h k
    head_eq-vars (Con a) (Con b) = refl
    head_eq-vars (Int a) (Int b) = refl
    head_eq-vars (Str a) (Str b) = refl
    head_eq-vars (Name a) (Name b) = refl
    head_eq-vars (Bound a) (Bound b) = refl
    head_eq-vars (Var a) (Var b) = one a b
    head_eq-vars _ _ = refl

    pub term_eq-vars : (s t : Term) → term_eq (vars p s) (vars p t) ≡ term_eq s t
    term_eq-vars (Lam a) (Lam b) = term_eq-vars a b
    term_eq-vars (At h) (At k) = head_eq-vars h k
    term_eq-vars (App f a) (App g b) = ap₂ (λ (x y : Bool). x && y) (term_eq-vars f g) (term_eq-vars a b)
    term_eq-vars _ _ = refl
