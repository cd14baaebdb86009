-- What type inference answers.
use Rattle.std.specs.Prelude.{◌≡◌, ◌⊎◌, ℕ, List, length, Some, None}
use Rattle.decl_trees.specs.declared.trees.DeclTree.{DeclTree}
use Rattle.decl_types.specs.TypeRules.{first_breach}
use Rattle.decl_types.specs.DeclaredTypes.{declared_types}
use Rattle.lp_resolve.specs.declared.program.Program.{Program}
use Rattle.type_check.specs.declared.error.TypeError.{TypeError}
use Rattle.type_check.specs.declared.error.TypeError.TheVariants.{Broken, Memory}
use Rattle.type_check.specs.declared.inferring.Typing.{Typing}
use Rattle.type_check.specs.Typings.{items_of}
use Rattle.type_check.specs.Inferred.{IsPrincipal, IsUntyped}

-- principal types of the constants of a table, where no rule of declarations is broken
pub record IsInference (table : List (List ℕ)) (decls : List DeclTree) (p : Program) (t : Typing) : Type 0 where
  pub unbroken : first_breach table decls ≡ None
  pub principal : IsPrincipal (declared_types (length table) decls) (length table) (items_of p) t

-- the first broken rule of declarations, and only where there is none, Y4; want of memory may come at any time
abbrev pub IsCause : (table : List (List ℕ)) → List DeclTree → Program → TypeError → Type 0
IsCause table decls p (Broken rule place) =
    (first_breach table decls ≡ Some (record { rule = rule; place = place }))
    ⊎ ((first_breach table decls ≡ None) × IsUntyped (declared_types (length table) decls) (length table) (items_of p) (Broken rule place))
IsCause table decls p Memory = Unit {0}
