use Rattle.lp_resolve.specs.Occurrences.{are_distinct_names}
use Rattle.mode_check.proofs.Forms.{noted-ap, when-ok}
use Rattle.mode_check.proofs.variables.+noted.Goals as goal

pub note_tree-returns-in_ok-note_front-in-Ap : goal.note_tree-returns-in_ok-note_front-in-Ap
note_tree-returns-in_ok-note_front-in-Ap t c =
    when-ok c.note_all.result
    (λ rest. noted-ap (λ o. are_distinct_names o.spine) c.args.tree.now c.in-Ap.head c.in-Ap.args c.args.usable.now.items c.note_front.new.usable.items c.note_all.new.usable.items
    c.in-Ap.is c.as_slice.result.now c.as_slice-in-Ap.result.now c.as_slice.ensures c.as_slice-in-Ap.ensures c.in_ok-note_front-in-Ap.ensures rest)
    c.note_all.ensures
