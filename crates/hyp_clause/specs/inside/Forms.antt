-- The forms around a clause.
use Rattle.std.specs.Prelude.{◌≡◌, ℕ, suc, List, [], ◌∷◌, ◌++◌}
use Rattle.ref_terms.specs.terms.Term.{Term}
use Rattle.ref_terms.specs.unification.Closing.{close}
use Rattle.ref_terms.specs.search.Reserved.{if_term, implies_term, pi_term}
use Rattle.ref_terms.specs.search.Assumption.{Assumption}
use Rattle.level_terms.specs.declared.node.TermId.{TermId}
use Rattle.level_terms.specs.Graph.{Graph}
use Rattle.level_terms.specs.Reading.{read}
use Rattle.level_terms.specs.Valid.{IsValid}
use Rattle.beta_fragment.specs.Names.{names}
use Rattle.beta_fragment.specs.HeadForm.{all_read}
use Rattle.hyp_clause.specs.declared.forms.Form.{Form}
use Rattle.hyp_clause.specs.declared.forms.Form.TheVariants.{If, Implies, Pi}
use Rattle.hyp_clause.specs.declared.forms.Forms.{Forms, End, Inside'}

-- innermost first
abbrev pub forms_of : Forms → List Form
forms_of End = []
forms_of (Inside' p form outer) = form ∷ forms_of outer

-- the condition that a form gives
abbrev pub own_goals : Form → List TermId
own_goals (If t) = t ∷ []
own_goals (Implies t) = t ∷ []
own_goals (Pi l) = []

-- those of forms, outer ones first
abbrev pub goals_of : List Form → List TermId
goals_of [] = []
goals_of (f ∷ fs) = goals_of fs ++ own_goals f

-- a term with a form around it
abbrev pub wrapped : Graph → Form → Term → Term
wrapped g (If t) a = if_term a (read g t.index names)
wrapped g (Implies t) a = implies_term (read g t.index names) a
wrapped g (Pi l) a = pi_term (close l a)

-- with all of them
abbrev pub assumed_around : Graph → List Form → Term → Term
assumed_around g [] a = a
assumed_around g (f ∷ fs) a = assumed_around g fs (wrapped g f a)

-- a clause with the forms around it
abbrev pub around : Graph → List Form → Assumption → Assumption
around g fs h = record h { conditions = all_read g (goals_of fs) ++ h.conditions; assumed = assumed_around g fs h.assumed }

-- the depth outside a form
abbrev pub level_outside : Form → ℕ → ℕ
level_outside (Pi l) depth = l
level_outside _ depth = depth

-- a form makes sense around what is valid at a depth
abbrev pub IsFormAt : Graph → ℕ → Form → Type 0
IsFormAt g depth (If t) = IsValid g t.index depth
IsFormAt g depth (Implies t) = IsValid g t.index depth
IsFormAt g depth (Pi l) = depth ≡ suc l

-- so one after the other, and the outermost one stands at the scope
abbrev pub AreFormsAt : Graph → (scope depth : ℕ) → List Form → Type 0
AreFormsAt g scope depth [] = depth ≡ scope
AreFormsAt g scope depth (f ∷ fs) = IsFormAt g depth f × AreFormsAt g scope (level_outside f depth) fs
