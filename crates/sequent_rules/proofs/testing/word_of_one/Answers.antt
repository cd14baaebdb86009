use Rattle.std.proofs.Common.{◌≡◌, Some, sym}
use Rattle.level_terms.specs.Reading.{read}
use Rattle.level_terms.proofs.GainLemmas.{gains-refl}
use Rattle.beta_fragment.specs.Names.{names}
use Rattle.ref_terms.specs.declared.reserved.Reserved.TheVariants.{Var, Nonvar, Name}
use Rattle.sequent_rules.proofs.TestLemmas.{other-of_one}
use Rattle.sequent_rules.proofs.testing.word_of_one.Goals as goal

pub returns-in_default : goal.returns-in_default
returns-in_default c = record {
  holds = sym (other-of_one (Some c.args.word) (read c.args.heap.now c.args.a.index names) (λ e. c.in_default.not-Var (let z : Some c.args.word ≡ Some Var = e in let y : c.args.word ≡ Var = cc in y)) (λ e. c.in_default.not-Nonvar (let z : Some c.args.word ≡ Some Nonvar = e in let y : c.args.word ≡ Nonvar = cc in y)) (λ e. c.in_default.not-Name (let z : Some c.args.word ≡ Some Name = e in let y : c.args.word ≡ Name = cc in y)));
  gains = gains-refl c.args.heap.now;
}
