use Rattle.std.proofs.Common.{[], reverse, sym}
use Rattle.level_terms.specs.Reading.{read}
use Rattle.level_terms.proofs.GrowthLemmas.{grows-trans}
use Rattle.ref_terms.specs.texts.Text.{top}
use Rattle.beta_fragment.specs.Names.{names}
use Rattle.term_print.proofs.LookLemmas.{lam-grown}
use Rattle.term_print.proofs.SequentLemmas.{one-read-grown}
use Rattle.term_print.proofs.StepLemmas.{pieces-grown, looked-leaves}
use Rattle.term_print.proofs.WrittenLemmas.{on-ok}
use Rattle.term_print.proofs.step.write_seen_lam.Goals as goal

pub write_lam-requires-clause-lam : goal.write_lam-requires-clause-lam
write_lam-requires-clause-lam c = lam-grown c.args.heap.now c.kept_below.new.heap c.is_sound.ensures c.kept_below.ensures.grows c.args.lam.index c.args.depth c.requires.lam

pub write_lam-requires-clause-pieces : goal.write_lam-requires-clause-pieces
write_lam-requires-clause-pieces c = pieces-grown c.args.heap.now c.kept_below.new.heap c.is_sound.ensures c.kept_below.ensures.grows c.args.base (reverse c.args.work.now.items) c.requires.pieces

pub returns-clause-prints : goal.returns-clause-prints
returns-clause-prints c = on-ok c.write_lam.result
    (λ w table seen. looked-leaves table c.args.base top c.args.heap.now c.kept_below.new.heap c.write_lam.new.heap c.is_sound.ensures c.kept_below.ensures.grows (read c.args.heap.now c.args.lam.index names) (read c.kept_below.new.heap c.args.lam.index names)
    (sym (one-read-grown c.args.heap.now c.kept_below.new.heap c.is_sound.ensures c.kept_below.ensures.grows c.args.lam c.args.depth c.requires.lam.valid)) c.args.depth (reverse c.args.work.now.items) c.requires.pieces _ _ _ (w table seen))
    c.write_lam.ensures.prints

pub returns-clause-grows : goal.returns-clause-grows
returns-clause-grows c = grows-trans c.args.heap.now c.kept_below.new.heap c.write_lam.new.heap [] [] [] c.kept_below.ensures.grows c.write_lam.ensures.grows
