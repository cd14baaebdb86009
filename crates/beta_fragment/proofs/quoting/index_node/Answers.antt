use Rattle.std.proofs.Common.{[]}
use Rattle.level_terms.proofs.GrowthLemmas.{grows-refl}
use Rattle.level_terms.specs.Values.{value_of}
use Rattle.std.proofs.lemmas.Result.{IfOk-weaker}
use Rattle.beta_fragment.proofs.QuoteLemmas.{quotes-index}
use Rattle.beta_fragment.proofs.quoting.index_node.Goals as goal

pub returns-in_err-level-clause-grows : goal.returns-in_err-level-clause-grows
returns-in_err-level-clause-grows c = grows-refl c.args.heap.now []

pub returns-clause-quotes : goal.returns-clause-quotes
returns-clause-quotes c = IfOk-weaker c.made_level.result _ _
    (λ r w h. quotes-index h c.args.depth c.args.under c.args.i c.in_ok-level.level (value_of c.made_level.new.heap r) c.requires c.in_ok-level.ensures w)
    c.made_level.ensures.level
