use Rattle.std.proofs.Common.{◌≡◌, Some, sym}
use Rattle.level_terms.specs.Reading.{read}
use Rattle.level_terms.proofs.GainLemmas.{gains-refl}
use Rattle.beta_fragment.specs.Names.{names}
use Rattle.ref_terms.specs.declared.reserved.Reserved.TheVariants.{Same, Distinct, Less}
use Rattle.sequent_rules.proofs.TestLemmas.{other-of_two}
use Rattle.sequent_rules.proofs.testing.word_of_two.Goals as goal

pub returns-in_default : goal.returns-in_default
returns-in_default c = record {
  holds = sym (other-of_two (Some c.args.word) (read c.args.heap.now c.args.a.index names) (read c.args.heap.now c.args.b.index names) (λ e. c.in_default.not-Same (let z : Some c.args.word ≡ Some Same = e in let y : c.args.word ≡ Same = cc in y)) (λ e. c.in_default.not-Distinct (let z : Some c.args.word ≡ Some Distinct = e in let y : c.args.word ≡ Distinct = cc in y)) (λ e. c.in_default.not-Less (let z : Some c.args.word ≡ Some Less = e in let y : c.args.word ≡ Less = cc in y)));
  gains = gains-refl c.args.heap.now;
}
