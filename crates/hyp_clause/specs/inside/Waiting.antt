-- Parts that wait, and the clauses that were read before them.
use Rattle.std.specs.Prelude.{◌≡◌, ℕ, ◌+◌, ◌<◌, List, [], ◌∷◌, ◌++◌, map, reverse}
use Rattle.ref_terms.specs.search.Fault.{Judged, Good, judged_append}
use Rattle.ref_terms.specs.search.Assumption.{Assumption}
use Rattle.level_terms.specs.Graph.{Graph}
use Rattle.hyp_clause.specs.declared.hyp.Hyp.{Hyp}
use Rattle.hyp_clause.specs.declared.hyp.HypStop.{HypStop}
use Rattle.hyp_clause.specs.declared.hyp.HypStop.TheVariants.{Fault, Memory}
use Rattle.hyp_clause.specs.declared.part.Part.{Part}
use Rattle.hyp_clause.specs.Hyps.{assumption_in, AllHypsValid}
use Rattle.hyp_clause.specs.inside.Parts.{Task, Seen, kept, one, two, failed, task_of, judged, size_of, IsPart}

-- the parts that wait, the next one first
abbrev pub waiting : List Part → List Task
waiting ps = reverse (map task_of ps)

-- the clauses of parts, one after the other
abbrev pub all_judged : Graph → (scope : ℕ) → List Task → Judged (List Assumption)
all_judged g scope [] = Good []
all_judged g scope (k ∷ ks) = judged_append (judged g scope k) (all_judged g scope ks)

-- the clauses that were read, before those of the parts that wait
abbrev pub whole : Graph → (scope : ℕ) → List Hyp → List Task → Judged (List Assumption)
whole g scope hs ks = judged_append (Good (map (assumption_in g) hs)) (all_judged g scope ks)

-- the parts make sense
abbrev pub AreParts : Graph → (scope : ℕ) → List Task → Type 0
AreParts g scope [] = Unit {0}
AreParts g scope (k ∷ ks) = IsPart g scope k × AreParts g scope ks

-- how much there is to read
abbrev pub sizes : Graph → List Task → ℕ
sizes g [] = 0
sizes g (k ∷ ks) = size_of g k + sizes g ks

-- what was seen is taken in
abbrev pub IsTaken : Seen → (hs : List Hyp) (ks : List Task) (hs' : List Hyp) (ks' : List Task) → Type 0
IsTaken (kept h) hs ks hs' ks' = (hs' ≡ hs ++ h ∷ []) × (ks' ≡ ks)
IsTaken (one k) hs ks hs' ks' = (hs' ≡ hs) × (ks' ≡ k ∷ ks)
IsTaken (two k l) hs ks hs' ks' = (hs' ≡ hs) × (ks' ≡ k ∷ l ∷ ks)
IsTaken (failed f) hs ks hs' ks' = ⊥

-- no clause was seen
abbrev pub IsRefused : Seen → HypStop → Type 0
IsRefused s (Fault f) = s ≡ failed f
IsRefused s Memory = Unit {0}

-- clauses and parts that go on from others
pub record GoesOn (g h : Graph) (scope : ℕ) (hs : List Hyp) (ks : List Task) (hs' : List Hyp) (ks' : List Task) : Type 0 where
  pub reads : whole h scope hs' ks' ≡ whole g scope hs ks
  pub parts : AreParts h scope ks'
  pub hyps : AllHypsValid h hs'
  pub smaller : sizes h ks' < sizes g ks
