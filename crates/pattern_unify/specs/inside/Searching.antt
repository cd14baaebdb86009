-- The search for the first place that offends, as a list of subterms that are still to be looked at.
use Rattle.std.specs.Prelude.{◌≡◌, ℕ, suc, ◌+◌, ◌-◌, ◌<◌, ◌≤◌, Bool, true, false, cond, nat_eq, nat_lt, List, [], ◌∷◌, ◌++◌, reverse, length, Option, Some, None}
use Rattle.std.specs.List.{list_any}
use Rattle.level_terms.specs.declared.node.TermId.{TermId}
use Rattle.level_terms.specs.declared.node.VarId.{VarId}
use Rattle.level_terms.specs.Graph.{Graph}
use Rattle.level_terms.specs.Reading.{read}
use Rattle.level_terms.specs.Valid.{IsValid}
use Rattle.ref_terms.specs.terms.Term.{Term}
use Rattle.ref_terms.specs.ending.Measure.{size}
use Rattle.ref_terms.specs.unification.Closing.{up_from}
use Rattle.ref_terms.specs.unification.Offence as offence
use Rattle.ref_terms.specs.unification.Offence.{or_later}
use Rattle.beta_fragment.specs.declared.answer.RigidHead.{RigidHead}
use Rattle.beta_fragment.specs.declared.answer.RigidHead.TheVariants.{Con, Int, Str, Level}
use Rattle.beta_fragment.specs.Names.{names}
use Rattle.pattern_unify.specs.declared.offence.Verdict.{Verdict}
use Rattle.pattern_unify.specs.declared.offence.Verdict.TheVariants.{Fine, Redex, Scope, Itself, Foreign, Dropped}
use Rattle.pattern_unify.specs.declared.offence.Subterm.{Subterm}
use Rattle.pattern_unify.specs.inside.Verdicts.{verdict_of, DropsAssignable}

-- what is searched for: the variable that would get the term, its names, and the level from which on the term binds its own
pub record Search : Type 0 where
  pub mark : ℕ
  pub variable : ℕ
  pub spine : List ℕ
  pub base : ℕ

-- a name of the spine, or one that the term binds
abbrev pub is_known : (spine : List ℕ) → (base n : ℕ) → Bool
is_known ns base n = cond (nat_lt n base) (list_any (nat_eq n) ns) true

-- these names below a depth
abbrev pub known_at : Search → (depth : ℕ) → List ℕ
known_at s depth = s.spine ++ up_from s.base (depth - s.base)

-- the first of some names that isn't known, where they begin at position i
abbrev pub unknown_from : (spine : List ℕ) → (base i : ℕ) → List ℕ → Option ℕ
unknown_from ns base i [] = None
unknown_from ns base i (n ∷ more) = cond (is_known ns base n) (unknown_from ns base (suc i) more) (Some i)

-- nothing offends
abbrev pub is_fine : Verdict → Bool
is_fine Fine = true
is_fine Redex = false
is_fine Scope = false
is_fine Itself = false
is_fine Foreign = false
is_fine (Dropped v i n) = false

-- a verdict, but for a loose place
abbrev pub at_place : (loose : Bool) → Verdict → Verdict
at_place loose v = cond loose Scope v

-- the verdict on a name as a head
abbrev pub name_says : (spine : List ℕ) → (base : ℕ) → (loose : Bool) → ℕ → Verdict
name_says ns base loose n = cond (is_known ns base n) Fine (at_place loose Foreign)

-- that on a head that is no variable
abbrev pub head_says : (spine : List ℕ) → (base : ℕ) → (loose : Bool) → RigidHead → Verdict
head_says ns base loose (Level n) = name_says ns base loose n
head_says ns base loose (Con c) = Fine
head_says ns base loose (Int n) = Fine
head_says ns base loose (Str s) = Fine

-- that on a pattern spine of so many names, by the position that isn't known
abbrev pub place_says : (loose : Bool) → VarId → (arity : ℕ) → Option ℕ → Verdict
place_says loose v arity None = Fine
place_says loose v arity (Some i) = at_place loose (Dropped v i arity)

-- that on the pattern spine of a variable
abbrev pub spine_says : (spine : List ℕ) → (base : ℕ) → (loose : Bool) → VarId → List ℕ → Verdict
spine_says ns base loose v others = place_says loose v (length others) (unknown_from ns base 0 others)

-- the reference's verdict on a term that was opened to a depth
abbrev pub verdict_on : Search → (depth : ℕ) → (loose : Bool) → Term → offence.Verdict
verdict_on s depth loose u = offence.offence s.mark s.variable (known_at s depth) loose u

-- that on the first of some subterms that offends
abbrev pub first_verdict : Search → Graph → List Subterm → offence.Verdict
first_verdict s g [] = offence.fine
first_verdict s g (p ∷ more) = or_later (verdict_on s p.depth p.loose (read g p.node.index names)) (first_verdict s g more)

-- each is valid, at a depth from the base on
abbrev pub AllSearchable : Search → Graph → List Subterm → Type 0
AllSearchable s g [] = Unit {0}
AllSearchable s g (p ∷ more) = IsValid g p.node.index p.depth × (s.base ≤ p.depth) × AllSearchable s g more

-- how much there is to search
abbrev pub search_size : Graph → List Subterm → ℕ
search_size g [] = 0
search_size g (p ∷ more) = size (read g p.node.index names) + search_size g more

-- a node as a subterm
abbrev pub subterm : (depth : ℕ) → (loose : Bool) → TermId → Subterm
subterm depth loose t = record { node = t; depth = depth; loose = loose }

-- a look at a term: a verdict, and the subterms that are put onto the list, the first one last
pub record LooksAt (s : Search) (g : Graph) (depth : ℕ) (loose : Bool) (u : Term) (work work' : List Subterm) (r : Verdict) : Type 0 where
  pub parts : List Subterm
  pub pushed : work' ≡ work ++ reverse parts
  pub verdict : verdict_on s depth loose u ≡ or_later (verdict_of r) (first_verdict s g parts)
  pub searchable : AllSearchable s g parts
  pub less : search_size g parts < size u
  pub drops : DropsAssignable g s.mark r

-- a search by its parts
abbrev pub searching : (mark variable : ℕ) → List ℕ → (base : ℕ) → Search
searching mark variable ns base = record { mark = mark; variable = variable; spine = ns; base = base }
