use Rattle.std.proofs.Common.{◌≡◌, sym, subst, ◌∙◌}
use Rattle.ref_terms.specs.terms.Term.{At}
use Rattle.ref_terms.specs.unification.Spine.{apply_all}
use Rattle.beta_fragment.specs.HeadForm.{rigid_head}
use Rattle.beta_fragment.specs.declared.answer.RigidHead.{RigidHead}
use Rattle.beta_fragment.specs.declared.answer.RigidHead.TheVariants.{Con, Int, Str, Level}
use Rattle.builtins.proofs.QuestionLemmas.{head-no_name, level-alone}
use Rattle.builtins.proofs.questions.is_level_alone.Goals as goal

pub returns-in-Level : goal.returns-in-Level
returns-in-Level c = λ u xs l e. level-alone u c.in-Level.field-0 xs c.args.count l (subst (λ (h : RigidHead). u ≡ apply_all (At (rigid_head h)) xs) c.in-Level.is e)

pub returns-in-Con : goal.returns-in-Con
returns-in-Con c = λ u xs l e. head-no_name u c.args.head xs (λ n is k. absurd (let q : Con c.in-Con.field-0 ≡ Level n = sym c.in-Con.is ∙ is in cc)) e

pub returns-in-Int : goal.returns-in-Int
returns-in-Int c = λ u xs l e. head-no_name u c.args.head xs (λ n is k. absurd (let q : Int c.in-Int.field-0 ≡ Level n = sym c.in-Int.is ∙ is in cc)) e

pub returns-in-Str : goal.returns-in-Str
returns-in-Str c = λ u xs l e. head-no_name u c.args.head xs (λ n is k. absurd (let q : Str c.in-Str.field-0 ≡ Level n = sym c.in-Str.is ∙ is in cc)) e
