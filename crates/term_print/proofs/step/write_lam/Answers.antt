use Rattle.std.proofs.Common.{[]}
use Rattle.level_terms.specs.Reading.{read}
use Rattle.level_terms.proofs.GrowthLemmas.{grows-refl}
use Rattle.beta_fragment.specs.Names.{names}
use Rattle.level_terms.proofs.ValidLemmas.{growth_keeps_valid}
use Rattle.level_terms.proofs.ReadLemmas.{valid-below}
use Rattle.term_print.proofs.ChainLemmas.{body-kept-grown}
use Rattle.term_print.proofs.StepLemmas.{lam-printed}
use Rattle.term_print.proofs.WrittenLemmas.{on-ok}
use Rattle.term_print.proofs.step.write_lam.Goals as goal

pub returns-in_err-inside-clause-grows : goal.returns-in_err-inside-clause-grows
returns-in_err-inside-clause-grows c = grows-refl c.args.heap.now []

pub returns-clause-prints : goal.returns-clause-prints
returns-clause-prints c = on-ok c.write_binder.result
    (λ e table seen. lam-printed table c.args.base c.args.heap.now c.body_at.new.heap c.is_sound.ensures c.body_at.ensures.grows c.args.depth c.args.work.now.items c.push.new.self.items
    c.requires.deep c.requires.pieces (read c.args.heap.now c.args.lam.index names) c.requires.lam.reads c.in_ok-node.node c.in_ok-inside.inside c.kept_from-kept.result c.in_ok-inside.ensures c.kept_from-kept.ensures c.in_ok-node.ensures.valid c.in_ok-node.ensures.reads c.in_ok-push.ensures.items
    c.args.out.now c.write_binder.new.out seen e)
    c.write_binder.ensures.ok

pub kept_from-kept-requires-clause-there : goal.kept_from-kept-requires-clause-there
kept_from-kept-requires-clause-there c = valid-below c.body_at.new.heap c.args.lam.index c.args.depth (growth_keeps_valid c.args.heap.now c.body_at.new.heap [] [] c.args.lam.index c.args.depth c.is_sound.ensures c.body_at.ensures.grows (valid-below c.args.heap.now c.args.lam.index c.args.depth c.requires.lam.valid) c.requires.lam.valid)

pub kept_from-kept-requires-clause-kept : goal.kept_from-kept-requires-clause-kept
kept_from-kept-requires-clause-kept c = body-kept-grown c.args.heap.now c.body_at.new.heap c.is_sound.ensures c.body_at.ensures.grows c.args.lam c.args.depth c.args.kept c.requires.lam.valid c.requires.kept
