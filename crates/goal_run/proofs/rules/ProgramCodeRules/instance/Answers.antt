use Rattle.std.proofs.Common.{◌≡◌, ℕ, Some, refl}
use Rattle.std.specs.Prelude.{slice_get}
use Rattle.ref_terms.specs.search.Program.{Program, Rule}
use Rattle.clause_compile.specs.Programs.{IsCode}
use Rattle.sequent_rules.specs.Rules.{StandsIn, IsRuleMade}
use Rattle.goal_run.specs.inside.Code.{Stands}
use Rattle.goal_run.proofs.CodeLemmas.{if-ok}
use Rattle.goal_run.proofs.rules.ProgramCodeRules.instance.Goals as goal

pub make_rule-requires : goal.make_rule-requires
make_rule-requires c =
    let r = c.requires in
    (r.1.is.shared, r.0, r.1.is.code r.1.count c.args.heap.now r.1.within refl, r.2)

pub returns-clause-made : goal.returns-clause-made
returns-clause-made c =
    let g = c.args.heap.now in
    let h = c.make_rule.new.heap in
    if-ok c.make_rule.result
    (λ i. (n : ℕ) (p : Program) (r : Rule) → IsCode n g c.args.self.now.code p → slice_get p.rules c.args.rule ≡ Some r → IsRuleMade r c.args.depth g h i)
    (λ i. (p : Program) (r : Rule) → StandsIn Stands g c.args.self.now p → slice_get p.rules c.args.rule ≡ Some r → IsRuleMade r c.args.depth g h i)
    (λ i m p r w here. m w.is.shared p r (w.is.code w.count g w.within refl) here)
    c.make_rule.ensures.made
