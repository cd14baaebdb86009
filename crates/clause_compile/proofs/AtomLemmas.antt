-- Trees that are headed by a constant.
use Rattle.std.proofs.Common.{◌≡◌, ◌∙◌, ℕ, true, false, List, [], ◌∷◌, ◌++◌, map, Option, Some, None, option_and_then, refl, ap, sym, subst, append_assoc, append-nil}
use Rattle.std.specs.Option.{option_map_or}
use Rattle.ref_terms.specs.terms.Term as term
use Rattle.ref_terms.specs.terms.Term.{Term}
use Rattle.ref_terms.specs.terms.Apply.{apply}
use Rattle.ref_terms.specs.unification.Spine as spine
use Rattle.ref_terms.specs.unification.Spine.{apply_all}
use Rattle.ref_terms.specs.search.Front.{term_of}
use Rattle.ref_terms.specs.declared.sym.Sym.{Sym}
use Rattle.ref_terms.specs.declared.tree.Tree.{Tree, out-Tree, roll-Tree, roll-out-Tree}
use Rattle.ref_terms.specs.declared.tree.Tree.TheVariants.{Ap, rolls-Ap}
use Rattle.ref_terms.specs.declared.tree.Head.{Head, out-Head, roll-Head, roll-out-Head}
use Rattle.ref_terms.specs.declared.tree.Head.TheVariants.{Con, rolls-Con}
use Rattle.ref_terms.specs.declared.tree.Head.TheOpen.{Head-F, Tree-F}
use Rattle.lp_resolve.specs.Heads.{constant_of, constant_at, head_at, args_of, args_at}
use Rattle.lp_resolve.specs.StaticRules.{lacks_constant}
use Rattle.lp_resolve.specs.Trees.{as_term, IsWithin}
use Rattle.clause_compile.specs.inside.Compiled.{AllWithin}
use Rattle.clause_compile.proofs.BoundLemmas.{apply-headed}
use Rattle.clause_compile.proofs.TreeForms.{front-ap, front-con, within-ap}

-- a tree whose head is the constant with this number
pub record IsAtom (t : Tree) (n : ℕ) : Type 0 where
  pub constant : Sym
  pub arguments : List Tree
  pub number : constant.0 ≡ n
  pub is : t ≡ Ap (Con constant) arguments
  pub args : args_of t ≡ arguments

atom-head : (t : Tree) (n : ℕ) (h : Head) (args : List Tree) → t ≡ Ap h args → args_of t ≡ args → (x : Head-F Head Tree) → roll-Head x ≡ h → constant_at x ≡ Some n → IsAtom t n
atom-head t n h args e a (Head-F.Con c) f k = record {
  constant = c;
  arguments = args;
  number = cc;
  is = e ∙ ap (λ (z : Head). Ap z args) (sym f ∙ rolls-Con c);
  args = a;
}
atom-head t n h args e a (Head-F.Int z) f k = absurd (let q : None ≡ Some n = k in cc)
atom-head t n h args e a (Head-F.Str s) f k = absurd (let q : None ≡ Some n = k in cc)
atom-head t n h args e a (Head-F.Bound i) f k = absurd (let q : None ≡ Some n = k in cc)
atom-head t n h args e a (Head-F.ClauseVar v) f k = absurd (let q : None ≡ Some n = k in cc)
atom-head t n h args e a (Head-F.Stuck b) f k = absurd (let q : None ≡ Some n = k in cc)

atom-tree : (t : Tree) (n : ℕ) (x : Tree-F Head Tree) → roll-Tree x ≡ t → args_of t ≡ args_at x → option_and_then (λ h. constant_at (out-Head h)) (head_at x) ≡ Some n → IsAtom t n
atom-tree t n (Tree-F.Lam b) e a k = absurd (let q : None ≡ Some n = k in cc)
atom-tree t n (Tree-F.Ap h args) e a k = atom-head t n h args (sym e ∙ rolls-Ap h args) a (out-Head h) (roll-out-Head h) k

pub atom-of : (t : Tree) (n : ℕ) → constant_of t ≡ Some n → IsAtom t n
atom-of t n k = atom-tree t n (out-Tree t) (roll-out-Tree t) refl k

-- a term headed by a constant takes more arguments as it is
headed-all : (f : Term) (c : ℕ) (xs : List Term) → spine.head_of f ≡ Some (term.Con c) → (spine.head_of (apply_all f xs) ≡ Some (term.Con c)) × (spine.args_of (apply_all f xs) ≡ spine.args_of f ++ xs)
headed-all f c [] e = (e, sym (append-nil (spine.args_of f)))
headed-all f c (x ∷ xs) e =
    let k = apply-headed c f x e in
    let w = headed-all (apply f x) c xs (ap spine.head_of k ∙ e) in
    (w.0, w.1 ∙ ap (λ (ys : List Term). ys ++ xs) (ap spine.args_of k) ∙ append_assoc (spine.args_of f) (x ∷ []) xs)

atom-term : (t : Tree) (n : ℕ) (w : IsAtom t n) → term_of 0 t ≡ apply_all (term.At (term.Con n)) (map (term_of 0) w.arguments)
atom-term t n w = ap (term_of 0) w.is ∙ front-ap (Con w.constant) w.arguments ∙ ap (λ u. apply_all u (map (term_of 0) w.arguments)) (front-con w.constant ∙ ap (λ c. term.At (term.Con c)) w.number)

-- the term is headed by the constant, and its arguments are those of the tree
pub atom-headed : (t : Tree) (n : ℕ) → constant_of t ≡ Some n → spine.head_of (term_of 0 t) ≡ Some (term.Con n)
atom-headed t n k =
    let w = atom-of t n k in
    ap spine.head_of (atom-term t n w) ∙ (headed-all (term.At (term.Con n)) n (map (term_of 0) w.arguments) refl).0

pub atom-args : (t : Tree) (n : ℕ) → constant_of t ≡ Some n → spine.args_of (term_of 0 t) ≡ map (term_of 0) (args_of t)
atom-args t n k =
    let w = atom-of t n k in
    ap spine.args_of (atom-term t n w) ∙ (headed-all (term.At (term.Con n)) n (map (term_of 0) w.arguments) refl).1 ∙ ap (map (term_of 0)) (sym w.args)

pub atom-within : (vs : ℕ) (t : Tree) (n : ℕ) → constant_of t ≡ Some n → IsWithin vs 0 (as_term t) → AllWithin vs 0 (args_of t)
atom-within vs t n k h =
    let w = atom-of t n k in
    subst (AllWithin vs 0) (sym w.args) (within-ap vs 0 t (Con w.constant) w.arguments w.is h).1

-- a tree that has a constant
pub constant-there : (t : Tree) → lacks_constant t ≡ false → (n : ℕ) × (constant_of t ≡ Some n)
constant-there t e = go (constant_of t) refl
  where
    go : (o : Option ℕ) → constant_of t ≡ o → (n : ℕ) × (constant_of t ≡ Some n)
    go None k = absurd (let q : true ≡ false = ap (λ x. option_map_or (λ c. false) x true) (sym k) ∙ e in cc)
    go (Some n) k = (n, k)
