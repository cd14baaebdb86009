use Rattle.beta_fragment.specs.HeadForm.{all_read}
use Rattle.builtins.proofs.ExpressionLemmas.{read-length}
use Rattle.builtins.proofs.expression.rigid_expression.Goals as goal

pub returns-in-Int : goal.returns-in-Int
returns-in-Int c = λ g depth u v e. c.numeral.ensures g depth u (all_read g c.args.args.now) (read-length g c.args.args.now) e

pub returns-in-Str : goal.returns-in-Str
returns-in-Str c = λ g depth u v e. c.numeral-in-Str.ensures g depth u (all_read g c.args.args.now) (read-length g c.args.args.now) e

pub returns-in-Level : goal.returns-in-Level
returns-in-Level c = λ g depth u v e. c.numeral-in-Level.ensures g depth u (all_read g c.args.args.now) (read-length g c.args.args.now) e
