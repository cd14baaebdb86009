use Rattle.std.proofs.Common.{◌≡◌, length}
use Rattle.lp_parser.specs.Grammar.{quantified}
use Rattle.lp_parser.proofs.term.quantify.Given as goal

abbrev pub invariant-loop-word : goal.invariant-loop-word
invariant-loop-word l = quantified l.all l.place l.words l.inner ≡ quantified l.fn.all l.fn.place l.fn.words l.fn.body

abbrev pub decreases-loop-word : goal.decreases-loop-word
decreases-loop-word l = length l.words
