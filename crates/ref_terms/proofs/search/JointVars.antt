-- Joint names, where variables are renamed: they are the same.
use Rattle.std.proofs.Common.{◌≡◌, ℕ, suc, Bool, cond, nat_eq, List, [], ◌∷◌, map, replicate, filter, refl, ap, ap₂, ◌∙◌, Option, Some, None, option_map, option_and_then, slice_get}
use Rattle.ref_terms.specs.terms.Term.{Term, Head, Con, Int, Name}
use Rattle.ref_terms.specs.terms.Renamed.{vars, vars_head}
use Rattle.ref_terms.specs.lemmas.VarsLemmas.{fill-vars}
use Rattle.ref_terms.specs.unification.Spine.{args_of}
use Rattle.ref_terms.specs.unification.Shape.{Shape, Abstraction, Redex, Rigid, Flex, shape}
use Rattle.ref_terms.specs.unification.Pattern.{SpineName, pattern_of, names_of}
use Rattle.ref_terms.specs.declared.pair.Pair.{Pair}
use Rattle.ref_terms.specs.search.Branch.{Constraint}
use Rattle.ref_terms.specs.search.Joint.{Joint, spine_names, paired, paired_spines, argument, spine_at, map_at, identified, aligned, all_aligned, with_head, joined, joint, joint_head, over_joint}
use Rattle.ref_terms.specs.search.Renamed.{constraint_vars}
use Rattle.ref_terms.proofs.unification.RenamedLemmas.{args-vars, pattern-vars}
use Rattle.ref_terms.proofs.search.TermVars.{IsOneToOne, shape_vars, shape-vars}
use Rattle.ref_terms.proofs.search.ListVars.{get-vars}

-- what follows of equal parts
pub and-then-same : {A B : Type 0} (f g : A → Option B) → ((a : A) → f a ≡ g a) → (o : Option A) → option_and_then f o ≡ option_and_then g o
and-then-same f g e None = refl
and-then-same f g e (Some a) = e a

module _ (p : ℕ → ℕ) where
  -- a spine with its variable renamed
  abbrev spine_vars : ℕ × List ℕ → ℕ × List ℕ
  spine_vars s = (p s.0, s.1)

  pattern-spine-vars : (v : ℕ) (o : Option (List SpineName)) → option_map (λ ms. (p v, names_of ms)) o ≡ option_map spine_vars (option_map (λ ms. (v, names_of ms)) o)
  pattern-spine-vars v None = refl
  pattern-spine-vars v (Some ms) = refl

  spine_names-vars : (s : Shape) → spine_names (shape_vars p s) ≡ option_map spine_vars (spine_names s)
  spine_names-vars Abstraction = refl
  spine_names-vars Redex = refl
  spine_names-vars (Rigid h xs) = refl
  spine_names-vars (Flex v xs) = ap (option_map (λ ms. (p v, names_of ms))) (pattern-vars p xs) ∙ pattern-spine-vars v (pattern_of xs)

  term-spine-vars : (o : Option Term) → option_and_then (λ t. spine_names (shape 0 t)) (option_map (vars p) o) ≡ option_map spine_vars (option_and_then (λ t. spine_names (shape 0 t)) o)
  term-spine-vars None = refl
  term-spine-vars (Some t) = ap spine_names (shape-vars p t) ∙ spine_names-vars (shape 0 t)

  argument-vars : (i : ℕ) (c : Constraint) → argument (constraint_vars p c) i ≡ option_map (vars p) (argument c i)
  argument-vars i c = ap (λ (ts : List Term). slice_get ts i) (args-vars p c.term) ∙ get-vars (vars p) (args_of c.term) i

  spine_at-vars : (i : ℕ) (o : Option Constraint) → spine_at i (option_map (constraint_vars p) o) ≡ option_map spine_vars (spine_at i o)
  spine_at-vars i None = refl
  spine_at-vars i (Some c) = ap (option_and_then (λ t. spine_names (shape 0 t))) (argument-vars i c) ∙ term-spine-vars (argument c i)

  joint-head-vars : (names : List ℕ) (h : Head) → vars p (joint_head names h) ≡ joint_head names (vars_head p h)
  joint-head-vars names (Name n) = refl
  joint-head-vars names (Con c) = refl
  joint-head-vars names (Int c) = refl
  joint-head-vars names _ = refl

  pub over-joint-vars : (names : List ℕ) (t : Term) → vars p (over_joint names t) ≡ over_joint names (vars p t)
  over-joint-vars names t = fill-vars p (joint_head names) (joint_head names) (joint-head-vars names) t

  module _ (one : IsOneToOne p) where
    paired-spines-vars : (a b : Option (ℕ × List ℕ)) → paired_spines (option_map spine_vars a) (option_map spine_vars b) ≡ paired_spines a b
    paired-spines-vars None b = refl
    paired-spines-vars (Some s) None = refl
    paired-spines-vars (Some s) (Some t) = ap (λ (b : Bool). cond b (paired s.1 t.1) None) (one s.0 t.0)

    aligned-vars : (cs : List Constraint) (maps : List (List ℕ)) (q : Pair) (o : Option (List (Option ℕ))) → aligned (map (constraint_vars p) cs) maps q o ≡ aligned cs maps q o
    aligned-vars cs maps q o =
        let at : (i k : ℕ) → spine_at i (slice_get (map (constraint_vars p) cs) k) ≡ option_map spine_vars (spine_at i (slice_get cs k)) = λ i k. ap (spine_at i) (get-vars (constraint_vars p) cs k) ∙ spine_at-vars i (slice_get cs k) in
        ap (option_and_then (λ ps. identified (map_at maps q.left_head) ps o))
        (ap₂ paired_spines (at q.left_arg q.left_head) (at q.right_arg q.right_head) ∙ paired-spines-vars (spine_at q.left_arg (slice_get cs q.left_head)) (spine_at q.right_arg (slice_get cs q.right_head)))

    all-aligned-vars : (cs : List Constraint) (maps : List (List ℕ)) (qs : List Pair) (o : Option (List (Option ℕ))) → all_aligned (map (constraint_vars p) cs) maps qs o ≡ all_aligned cs maps qs o
    all-aligned-vars cs maps [] o = refl
    all-aligned-vars cs maps (q ∷ qs) o = ap (all_aligned (map (constraint_vars p) cs) maps qs) (aligned-vars cs maps q o) ∙ all-aligned-vars cs maps qs (aligned cs maps q o)

    joined-vars : (all : List Constraint) (pairs : List Pair) (i : ℕ) (cs : List Constraint) (j : Joint) → joined (map (constraint_vars p) all) pairs i (map (constraint_vars p) cs) j ≡ joined all pairs i cs j
    joined-vars all pairs i [] j = refl
    joined-vars all pairs i (c ∷ cs) j =
        let right : List Pair = filter (λ q. nat_eq q.right_head i) pairs in
        ap (option_and_then (λ ms. joined (map (constraint_vars p) all) pairs (suc i) (map (constraint_vars p) cs) (with_head j ms))) (all-aligned-vars all j.maps right (Some (replicate c.names None)))
        ∙ and-then-same (λ ms. joined (map (constraint_vars p) all) pairs (suc i) (map (constraint_vars p) cs) (with_head j ms)) (λ ms. joined all pairs (suc i) cs (with_head j ms)) (λ ms. joined-vars all pairs (suc i) cs (with_head j ms)) (all_aligned all j.maps right (Some (replicate c.names None)))

    pub joint-vars : (pairs : List Pair) (cs : List Constraint) → joint pairs (map (constraint_vars p) cs) ≡ joint pairs cs
    joint-vars pairs [] = refl
    joint-vars pairs (c ∷ cs) = joined-vars (c ∷ cs) pairs 1 cs _
