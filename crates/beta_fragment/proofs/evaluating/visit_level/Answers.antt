use Rattle.std.proofs.Common.{arith, sym, ◌∙◌}
use Rattle.level_terms.specs.declared.node.Node.TheVariants.{Level}
use Rattle.level_terms.proofs.NodeLemmas.{nodes_read}
use Rattle.beta_fragment.specs.inside.Cells.{terms_of}
use Rattle.beta_fragment.specs.inside.Evaluation.{entries_env}
use Rattle.beta_fragment.proofs.StayLemmas.{level-low}
use Rattle.beta_fragment.proofs.OpenHeadLemmas.{place-open}
use Rattle.beta_fragment.proofs.EvaluationLemmas.{steps-done, kept-done, entries-places}
use Rattle.beta_fragment.proofs.evaluating.visit_level.Goals as goal

pub level_term-requires-clause-within : goal.level_term-requires-clause-within
level_term-requires-clause-within c =
    let low = level-low c.args.heap.now c.args.node.index c.args.level c.requires.ready.depth c.is_sound.ensures c.requires.here c.requires.ready.valid in
    let within = c.requires.ready.within in
    omega (arith, low, within)

pub returns-clause-steps : goal.returns-clause-steps
returns-clause-steps c = λ work.
    steps-done c.args.heap.now work c.args.node c.args.entries.now c.args.under (terms_of c.args.cells.now) (terms_of c.level_term.new.cells) c.args.done.now.items c.push.new.self.items c.in_ok-r.r
    c.in_ok-push.ensures.items c.in_ok-r.ensures.gains c.requires.done
    (λ can. c.in_ok-r.ensures.kept.term ∙ sym (nodes_read c.args.heap.now c.args.node.index (Level c.args.level) (entries_env c.args.entries.now c.args.under) c.is_sound.ensures (entries-places c.args.entries.now c.args.under) c.requires.here))

pub returns-clause-done : goal.returns-clause-done
returns-clause-done c =
    kept-done c.args.heap.now (terms_of c.args.cells.now) (terms_of c.level_term.new.cells) c.args.done.now.items c.push.new.self.items c.in_ok-r.r (entries_env c.args.entries.now c.args.under c.args.level)
    c.in_ok-push.ensures.items c.in_ok-r.ensures.gains c.requires.done c.in_ok-r.ensures.kept (place-open c.args.heap.now (entries_env c.args.entries.now c.args.under c.args.level) (entries-places c.args.entries.now c.args.under c.args.level))
