use Rattle.std.proofs.Common.{◌∙◌, arith}
use Rattle.level_terms.specs.Reading.{read}
use Rattle.beta_fragment.specs.Names.{names}
use Rattle.pattern_unify.specs.inside.Searching.{searching}
use Rattle.pattern_unify.proofs.SearchLemmas.{names-low, looks-opened}
use Rattle.pattern_unify.proofs.offence.look_abstraction.Goals as goal

pub returns-clause-looks : goal.returns-clause-looks
returns-clause-looks c = λ mark x ns base low.
    looks-opened (searching mark x ns base) c.applied.new.heap c.args.depth c.in_ok-inner.inner c.args.loose (read c.args.heap.now c.args.lam.index names) c.in_ok-node.node c.args.work.now.items c.push.new.self.items
    c.requires.lam.reads
    (names-low c.args.heap.now c.args.lam.index c.args.depth c.requires.lam.valid)
    (c.in_ok-inner.ensures ∙ omega arith)
    c.in_ok-node.ensures.reads
    c.in_ok-node.ensures.valid
    c.in_ok-push.ensures.items
    low
