-- Names that stand for terms.
use Rattle.std.specs.Prelude.{◌≡◌, ℕ, ◌+◌, true, List, [], ◌∷◌, length}
use Rattle.level_terms.specs.declared.node.TermId.{TermId}
use Rattle.level_terms.specs.Graph.{Graph}
use Rattle.level_terms.specs.Reading.{read}
use Rattle.level_terms.specs.Valid.{IsValid}
use Rattle.ref_terms.specs.terms.Term.{Term}
use Rattle.ref_terms.specs.terms.Apply.{fill}
use Rattle.ref_terms.specs.terms.Ready.{ready}
use Rattle.beta_fragment.specs.declared.answer.Whnf.{Whnf}
use Rattle.beta_fragment.specs.Names.{names}
use Rattle.beta_fragment.specs.Moves.{put_name}
use Rattle.beta_fragment.specs.HeadForm.{IsHeadForm}

-- the term u is x with ready nodes, newest first, in the places of the names from the depth on: the oldest in that of the depth.
-- In each of them there may be the names of those that are older
abbrev pub StandFor : Graph → (depth : ℕ) → List TermId → (u x : Term) → Type 0
StandFor g depth [] u x = u ≡ x
StandFor g depth (a ∷ older) u x = IsValid g a.index (depth + length older) × (ready (read g a.index names) ≡ true) × StandFor g depth older u (fill (put_name (depth + length older) (read g a.index names)) x)

-- the form shows some term
abbrev pub HasForm : Graph → (depth : ℕ) → Whnf → Type 0
HasForm g depth w = (x : Term) × IsHeadForm g depth x w

-- the form shows a term in which names stand for nodes
abbrev pub FoundAs : Graph → (depth : ℕ) → List TermId → Term → Whnf → Type 0
FoundAs g depth puts u w = (x : Term) × StandFor g depth puts u x × IsHeadForm g (depth + length puts) x w

abbrev pub IsFoundBy : Graph → (depth : ℕ) → List TermId → Whnf → Type 0
IsFoundBy g depth puts w = (u : Term) × FoundAs g depth puts u w

-- nodes with a term in the place of the name of the depth
abbrev pub ArePut : (g h : Graph) → (depth : ℕ) → Term → List TermId → List TermId → Type 0
ArePut g h depth s [] [] = Unit {0}
ArePut g h depth s (t ∷ ts) (r ∷ rs) = IsValid h r.index depth × (read h r.index names ≡ fill (put_name depth s) (read g t.index names)) × ArePut g h depth s ts rs
ArePut g h depth s _ _ = ⊥
