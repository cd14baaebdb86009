use Rattle.std.proofs.Common.{◌<◌, []}
use Rattle.level_terms.proofs.GrowthLemmas.{grows-refl}
use Rattle.level_terms.specs.Values.{value_of}
use Rattle.std.proofs.lemmas.Result.{IfOk-weaker}
use Rattle.beta_fragment.proofs.QuoteLemmas.{quotes-put_at, quotes-level, low-some, low-none}
use Rattle.beta_fragment.proofs.quoting.name_node.Goals as goal
use Rattle.beta_fragment.proofs.quoting.name_node.Goals.{in-Some+else-n-depth, in_default}

pub returns-then-n-depth-clause-quotes : goal.returns-then-n-depth-clause-quotes
returns-then-n-depth-clause-quotes c = λ under. quotes-put_at c.args.heap.now c.args.depth under c.args.n c.args.put c.in-Some.r c.is_sound.ensures c.in-Some.is c.if-n-depth.true c.requires.put

pub returns-then-n-depth-clause-grows : goal.returns-then-n-depth-clause-grows
returns-then-n-depth-clause-grows c = grows-refl c.args.heap.now []

pub returns-clause-quotes : goal.returns-clause-quotes
returns-clause-quotes c =
    let low : c.args.n < c.args.depth = elim c.match-put.branch [
      | in-Some+else-n-depth w ↦ low-some c.args.depth c.args.n c.args.put w.in-Some.r w.in-Some.is w.if-n-depth.false c.requires.named
      | in_default w ↦ low-none c.args.depth c.args.n c.args.put w.in_default.is c.requires.named
    ] in
    IfOk-weaker c.made_level.result _ _ (λ r w under. quotes-level c.args.heap.now c.args.depth c.args.put under c.args.n (value_of c.made_level.new.heap r) low w) c.made_level.ensures.level
