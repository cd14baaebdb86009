-- The body of an abstraction.
use Rattle.std.specs.Prelude.{◌≡◌, ℕ, cond, nat_eq, Option, Some}
use Rattle.level_terms.specs.declared.node.Node.{Node}
use Rattle.level_terms.specs.declared.node.Node.TheVariants.{Lam}
use Rattle.level_terms.specs.Graph.{Graph}
use Rattle.level_terms.specs.Reading.{read, enter}
use Rattle.ref_terms.specs.terms.Term.{Term}
use Rattle.ref_terms.specs.terms.Apply.{open_with}
use Rattle.beta_fragment.specs.Names.{names}

-- an abstraction
abbrev pub IsLam : Option Node → Type 0
IsLam (Some (Lam d b)) = Unit {0}
IsLam _ = ⊥

-- the body of an abstraction that was made at a depth, with index 0 for its own name
abbrev pub body_reads : Graph → (depth body : ℕ) → Term
body_reads g depth body = read g body (enter depth names)

-- the body with a term for its own name
abbrev pub opened_reads : Graph → (depth body : ℕ) → Term → Term
opened_reads g depth body s = open_with (body_reads g depth body) s

-- an abstraction that was made at a depth
abbrev pub IsLamAt : ℕ → Option Node → Type 0
IsLamAt depth (Some (Lam d b)) = d ≡ depth
IsLamAt depth _ = ⊥

-- each level for its own name, but for one
abbrev pub at_name : (level name : ℕ) → ℕ → Term
at_name level name i = cond (nat_eq level i) (names name) (names i)
