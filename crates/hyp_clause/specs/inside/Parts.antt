-- Parts of a term that are read as clauses.
use Rattle.std.specs.Prelude.{◌≡◌, ℕ, suc, ◌+◌, ◌*◌, ◌<◌, List, [], ◌∷◌, map}
use Rattle.ref_terms.specs.terms.Term.{Term, At, Con}
use Rattle.ref_terms.specs.terms.Apply.{apply}
use Rattle.ref_terms.specs.unification.Spine.{apply_all}
use Rattle.ref_terms.specs.declared.sym.Sym.{Sym}
use Rattle.ref_terms.specs.declared.fault.Fault.{Fault}
use Rattle.ref_terms.specs.declared.fault.Fault.TheVariants.{NotGoal}
use Rattle.ref_terms.specs.search.Fault.{Judged, Good, Bad, judged_map, judged_append}
use Rattle.ref_terms.specs.search.Assumption.{Assumption, constants, read_at}
use Rattle.level_terms.specs.declared.node.TermId.{TermId}
use Rattle.level_terms.specs.Graph.{Graph}
use Rattle.level_terms.specs.Reading.{read}
use Rattle.level_terms.specs.Valid.{IsValid}
use Rattle.beta_fragment.specs.Names.{names}
use Rattle.beta_fragment.specs.HeadForm.{all_read, AllValidAt}
use Rattle.hyp_clause.specs.declared.hyp.Hyp.{Hyp}
use Rattle.hyp_clause.specs.declared.forms.Form.{Form}
use Rattle.hyp_clause.specs.declared.forms.Form.TheVariants.{If, Implies, Pi}
use Rattle.hyp_clause.specs.declared.part.Part.{Part}
use Rattle.hyp_clause.specs.declared.part.Turn.{Turn}
use Rattle.hyp_clause.specs.declared.part.Turn.TheVariants.{Clause, One, Both, Failed}
use Rattle.hyp_clause.specs.Hyps.{assumption_in, nodes_of, all_ground_normal, IsHypValid}
use Rattle.hyp_clause.specs.inside.Forms.{forms_of, goals_of, around, assumed_around, AreFormsAt}

-- a part, with the forms around it innermost first
pub record Task : Type 0 where
  pub term : TermId
  pub pis : ℕ
  pub forms : List Form

-- so of a part
abbrev pub task_of : Part → Task
task_of p = record { term = p.term; pis = p.pis; forms = forms_of p.around }

-- what reading a part gives
pub data Seen : Type 0 where
  kept : Hyp → Seen
  one : Task → Seen
  two : Task → Task → Seen
  failed : Fault → Seen

-- so of what the code has
abbrev pub seen : Turn → Seen
seen (Clause h) = kept h
seen (One p) = one (task_of p)
seen (Both p q) = two (task_of p) (task_of q)
seen (Failed f) = failed f

-- the term of a part
abbrev pub part_term : Graph → Task → Term
part_term g k = read g k.term.index names

-- a part of the part, with one more form around it
abbrev pub inside : Form → TermId → Task → Task
inside f t k = record { term = t; pis = k.pis; forms = f ∷ k.forms }

-- `,` with its arguments
abbrev pub both_of : Task → List TermId → Seen
both_of k (d ∷ e ∷ []) = two (record k { term = d }) (record k { term = e })
both_of k _ = failed NotGoal

-- `:-`
abbrev pub conditional_of : Task → List TermId → Seen
conditional_of k (d ∷ t ∷ []) = one (inside (If t) d k)
conditional_of k _ = failed NotGoal

-- `=>`
abbrev pub implied_of : Task → List TermId → Seen
implied_of k (t ∷ d ∷ []) = one (inside (Implies t) d k)
implied_of k _ = failed NotGoal

-- the part makes sense, and so do the forms around it
pub record IsPart (g : Graph) (scope : ℕ) (k : Task) : Type 0 where
  pub term : IsValid g k.term.index (scope + k.pis)
  pub forms : AreFormsAt g scope (scope + k.pis) k.forms

-- its head is a constant, with these arguments
pub record IsHeadedPart (g : Graph) (scope : ℕ) (k : Task) (c : Sym) (args : List TermId) : Type 0 where
  pub part : IsPart g scope k
  pub args_valid : AllValidAt g args (scope + k.pis)
  pub reads : part_term g k ≡ apply_all (At (Con c.0)) (all_read g args)

-- the clauses of a part, with the forms around it
abbrev pub judged : Graph → (scope : ℕ) → Task → Judged (List Assumption)
judged g scope k = judged_map (map (around g k.forms)) (read_at (constants (part_term g k)) scope k.pis (part_term g k))

-- and of what was seen
abbrev pub judged_seen : Graph → (scope : ℕ) → Seen → Judged (List Assumption)
judged_seen g scope (kept h) = Good (assumption_in g h ∷ [])
judged_seen g scope (one k) = judged g scope k
judged_seen g scope (two k l) = judged_append (judged g scope k) (judged g scope l)
judged_seen g scope (failed f) = Bad f

-- how much there is to read in a part
abbrev pub size_of : Graph → Task → ℕ
size_of g k = 1 + 2 * constants (part_term g k)

abbrev pub size_seen : Graph → Seen → ℕ
size_seen g (kept h) = 0
size_seen g (one k) = size_of g k
size_seen g (two k l) = size_of g k + size_of g l
size_seen g (failed f) = 0

-- what was seen makes sense
abbrev pub IsSeen : Graph → (scope : ℕ) → Seen → Type 0
IsSeen g scope (kept h) = IsHypValid g h
IsSeen g scope (one k) = IsPart g scope k
IsSeen g scope (two k l) = IsPart g scope k × IsPart g scope l
IsSeen g scope (failed f) = Unit {0}

-- what was seen is what the part is read as, and smaller
pub record IsTurnOf (g h : Graph) (scope : ℕ) (k : Task) (s : Seen) : Type 0 where
  pub reads : judged_seen h scope s ≡ judged g scope k
  pub makes_sense : IsSeen h scope s
  pub smaller : size_seen h s < size_of g k

-- `pi` with its arguments: the part under a new parameter
abbrev pub IsQuantified : (g h : Graph) → (scope : ℕ) → Task → List TermId → Seen → Type 0
IsQuantified g h scope k (f ∷ []) (one l) = (part_term h l ≡ apply (read g f.index names) (names (scope + k.pis))) × IsValid h l.term.index (suc (scope + k.pis)) × (l.pis ≡ suc k.pis) × (l.forms ≡ Pi (scope + k.pis) ∷ k.forms)
IsQuantified g h scope k (f ∷ []) _ = ⊥
IsQuantified g h scope k _ s = s ≡ failed NotGoal

-- an atom: the clause with the forms around it
abbrev pub IsClause : (g h : Graph) → (scope : ℕ) → Task → Sym → Seen → Type 0
IsClause g h scope k c (kept x) = (x.pred ≡ c) × (x.depth ≡ scope) × (x.pis ≡ k.pis) × (x.head ≡ k.term) × (x.body ≡ goals_of k.forms) × (read h x.term.index names ≡ assumed_around g k.forms (part_term g k)) × IsValid h x.term.index scope × (x.ground_normal ≡ all_ground_normal h (nodes_of x))
IsClause g h scope k c _ = ⊥
