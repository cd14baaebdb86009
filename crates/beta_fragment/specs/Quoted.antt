-- Terms as nodes.
use Rattle.std.specs.Prelude.{◌≡◌, ℕ, ◌<◌, ◌≤◌, suc, false, Option, Some, None, length}
use Rattle.level_terms.specs.declared.node.TermId.{TermId}
use Rattle.level_terms.specs.Graph.{Graph, value_in}
use Rattle.level_terms.specs.Reading.{read}
use Rattle.level_terms.specs.Valid.{IsValid}
use Rattle.ref_terms.specs.terms.Term as term
use Rattle.ref_terms.specs.terms.Term.{Term, Head, At}
use Rattle.ref_terms.specs.terms.Occurs.{has_name}
use Rattle.beta_fragment.specs.Names.{names}
use Rattle.beta_fragment.specs.Moves.{put_name}

-- each free index is below a number
abbrev pub AllIndicesBelow : ℕ → Term → Type 0
AllIndicesBelow k (term.Lam b) = AllIndicesBelow (suc k) b
AllIndicesBelow k (At (term.Bound i)) = i < k
AllIndicesBelow k (At h) = Unit {0}
AllIndicesBelow k (term.App f a) = AllIndicesBelow k f × AllIndicesBelow k a

-- each name is below a number
abbrev pub AllNamesBelow : ℕ → Term → Type 0
AllNamesBelow k u = (n : ℕ) → k ≤ n → has_name n u ≡ false

-- each head that is no index has a property
abbrev pub AllHeads : (Head → Type 0) → Term → Type 0
AllHeads p (term.Lam b) = AllHeads p b
AllHeads p (At (term.Bound i)) = Unit {0}
AllHeads p (At h) = p h
AllHeads p (term.App f a) = AllHeads p f × AllHeads p a

-- a variable that is there and has no value; other heads will do
abbrev pub IsOpenHead : Graph → Head → Type 0
IsOpenHead g (term.Var v) = (v < length g.depths) × (value_in g.assigned v ≡ None)
IsOpenHead g h = Unit {0}

-- the head, or a node's reading in the place of the name of its depth
abbrev pub put_head : Graph → (depth : ℕ) → Option TermId → Head → Term
put_head g depth None h = At h
put_head g depth (Some r) h = put_name depth (read g r.index names) h

-- how many names a term may have: one more where a node is put in the place of the last
abbrev pub names_with : (depth : ℕ) → Option TermId → ℕ
names_with depth None = depth
names_with depth (Some r) = suc depth

-- the node is valid at the depth, if there is one
abbrev pub IsValidIfAny : Graph → Option TermId → (depth : ℕ) → Type 0
IsValidIfAny g None depth = Unit {0}
IsValidIfAny g (Some r) depth = IsValid g r.index depth
