-- Types over the declarations of a program.
use Rattle.std.proofs.Common.{◌≡◌, ℕ, List, length, Option, None, Result, Ok, Err, IfOk, IfErr, inr, subst}
use Rattle.decl_trees.specs.declared.trees.DeclTree.{DeclTree}
use Rattle.decl_types.specs.TypeRules.{first_breach}
use Rattle.decl_types.specs.DeclaredTypes.{declared_types}
use Rattle.type_terms.specs.declared.scheme.Polytype.{Polytype}
use Rattle.lp_resolve.specs.declared.program.Program.{Program}
use Rattle.type_check.specs.declared.error.TypeError.{TypeError}
use Rattle.type_check.specs.declared.error.TypeError.TheVariants.{Broken, Memory}
use Rattle.type_check.specs.declared.inferring.Typing.{Typing}
use Rattle.type_check.specs.Typings.{items_of}
use Rattle.type_check.specs.Inferred.{IsPrincipal, IsUntyped}
use Rattle.type_check.specs.Inference.{IsInference, IsCause}

-- principal types over the declared ones
pub inferred : (table : List (List ℕ)) (decls : List DeclTree) (p : Program) (declared : ℕ → Option Polytype) (count : ℕ) (r : Result Typing TypeError) → first_breach table decls ≡ None
    → declared ≡ declared_types count decls → count ≡ length table → IfOk r (IsPrincipal declared count (items_of p)) → IfOk r (IsInference table decls p)
inferred table decls p declared count (Ok t) unbroken is each principal = record {
  unbroken = unbroken;
  principal = subst (λ (n : ℕ). IsPrincipal (declared_types n decls) n (items_of p) t) each (subst (λ (d : ℕ → Option Polytype). IsPrincipal d count (items_of p) t) is principal);
}
inferred table decls p declared count (Err e) unbroken is each principal = tt

-- the cause, where no rule of declarations is broken
pub caused : (table : List (List ℕ)) (decls : List DeclTree) (p : Program) (declared : ℕ → Option Polytype) (count : ℕ) (r : Result Typing TypeError) → first_breach table decls ≡ None
    → declared ≡ declared_types count decls → count ≡ length table → IfErr r (IsUntyped declared count (items_of p)) → IfErr r (IsCause table decls p)
caused table decls p declared count (Ok t) unbroken is each cause = tt
caused table decls p declared count (Err Memory) unbroken is each cause = tt
caused table decls p declared count (Err (Broken rule place)) unbroken is each cause =
    inr (
      unbroken,
      subst (λ (n : ℕ). IsUntyped (declared_types n decls) n (items_of p) (Broken rule place)) each
          (subst (λ (d : ℕ → Option Polytype). IsUntyped d count (items_of p) (Broken rule place)) is cause),
    )
