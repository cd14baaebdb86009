-- The terms of the search are those of the text, rebuilt.
use Rattle.std.specs.Prelude.{◌≡◌, ℕ, ◌+◌}
use Rattle.ref_terms.specs.terms.Term.{Head, Con, Int, Str, Name, Bound, Var, Term, At}
use Rattle.ref_terms.specs.terms.Apply.{fill}
use Rattle.ref_terms.specs.terms.Built.{IsBuilt}
use Rattle.ref_terms.specs.search.Front.{term_of}
use Rattle.ref_terms.specs.declared.tree.Tree.{Tree}
use Rattle.lp_resolve.specs.Trees.{as_term}

-- the head, where the variable i of a text is the variable `next + i`
abbrev pub numbered_from : (next : ℕ) → Head → Term
numbered_from next (Con c) = At (Con c)
numbered_from next (Int z) = At (Int z)
numbered_from next (Str s) = At (Str s)
numbered_from next (Name n) = At (Name n)
numbered_from next (Bound i) = At (Bound i)
numbered_from next (Var i) = At (Var (next + i))

-- the term of a tree is the tree as it stands, with its variables numbered, rebuilt
abbrev pub TreesAreRebuilt : Type 0
TreesAreRebuilt = (next : ℕ) (t : Tree) → term_of next t ≡ fill (numbered_from next) (as_term t)

-- so it is built, whatever the tree is
abbrev pub TermsOfTreesAreBuilt : Type 0
TermsOfTreesAreBuilt = (next : ℕ) (t : Tree) → IsBuilt (term_of next t)
