use Rattle.level_terms.proofs.GrowthLemmas.{grows-refl}
use Rattle.term_rows.proofs.unifying.answered.Goals as goal

pub returns-then-first-next_var : goal.returns-then-first-next_var
returns-then-first-next_var c = record { grows = grows-refl c.args.heap.now c.args.trail.now.entries }
