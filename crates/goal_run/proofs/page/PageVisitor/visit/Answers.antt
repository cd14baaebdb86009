use Rattle.std.proofs.Common.{List, [], ◌++◌, map, subst}
use Rattle.level_terms.proofs.GrowthLemmas.{grows-trans}
use Rattle.beta_fragment.specs.HeadForm.{all_read}
use Rattle.ref_terms.specs.search.Branch.{Constraint}
use Rattle.suspend.specs.Store.{stored}
use Rattle.search_moves.specs.Reading.{constraint_in}
use Rattle.term_print.specs.Written.{Prints}
use Rattle.term_print.specs.Pieces.{page}
use Rattle.term_print.proofs.WrittenLemmas.{on-ok}
use Rattle.goal_run.specs.inside.Lines.{lines_of}
use Rattle.goal_run.specs.inside.Suspended.{suspended_lines}
use Rattle.goal_run.proofs.SuspendedLemmas.{stored-showable, all-showable-grown, stored-read, both-written}
use Rattle.goal_run.proofs.page.PageVisitor.visit.Goals as goal

pub write_store-requires : goal.write_store-requires
write_store-requires c =
    let es = stored c.args.store.now in
    all-showable-grown c.args.heap.now c.write_variables.new.heap c.is_sound.ensures c.write_variables.ensures.grows es (stored-showable c.args.heap.now es c.requires.constraints)

pub returns-clause-sees : goal.returns-clause-sees
returns-clause-sees c =
    let g = c.args.heap.now in
    let h = c.write_variables.new.heap in
    let es = stored c.args.store.now in
    let table = c.args.self.now.symbols.now in
    let lines = lines_of table c.args.self.now.variables.now (all_read g c.args.query.now) in
    let p = page c.args.self.now.text c.args.self.now.namer in
    let q = page c.write_variables.new.text c.write_variables.new.namer in
    let r = page c.write_store.new.text c.write_store.new.namer in
    let goals = suspended_lines table (map (constraint_in g) es) in
    let write : Prints q (suspended_lines table (map (constraint_in h) es)) r [] → Prints p (lines ++ goals) r [] = λ w.
    both-written p q r lines goals c.in_ok-write_variables.ensures.writes
    (subst (λ (cs : List Constraint). Prints q (suspended_lines table cs) r []) (stored-read g h c.is_sound.ensures c.write_variables.ensures.grows es c.requires.constraints) w) in
    on-ok c.write_store.result write c.write_store.ensures.writes

pub returns-clause-grows : goal.returns-clause-grows
returns-clause-grows c = grows-trans c.args.heap.now c.write_variables.new.heap c.write_store.new.heap [] [] [] c.write_variables.ensures.grows c.write_store.ensures.grows
