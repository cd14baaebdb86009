use Rattle.std.proofs.Common.{ℕ, List, length, ◌≡◌, ◌∙◌, ap, sym, subst}
use Rattle.lp_resolve.specs.ProgramReading.{program_of}
use Rattle.lp_resolve.specs.WellFormed.{IsWellFormed}
use Rattle.lp_resolve.specs.ProgramTexts.{program_texts}
use Rattle.lp_resolve.specs.inside.ProgramNamed.{IsProgramNamed}
use Rattle.lp_resolve.proofs.BeginsLemmas.{begins-trans}
use Rattle.lp_resolve.proofs.ReadingNamed.{AreIn, interned-in}
use Rattle.lp_resolve.proofs.ProgramNamedLemmas.{program_of-named, reserved-long}
use Rattle.lp_resolve.proofs.ProgramLemmas.{program-same, program_of-formed}
use Rattle.lp_resolve.proofs.resolve.resolve_program.Goals as goal

-- the program that was read
read_as : (c : goal.In_ok-preds) → ◌≡◌ (record { preds = c.in_ok-preds.preds; clauses = c.in_ok-lists.lists.clauses; rules = c.in_ok-lists.lists.rules; decls = c.in_ok-lists.lists.lines }) (program_of c.read_items.new.symbols c.args.ast.now)
read_as c =
    program-same c.read_items.new.symbols c.args.ast.now c.as_slice.result.now c.in_ok-lists.lists.lines c.as_slice-2.result.now c.in_ok-lists.lists.clauses c.as_slice-3.result.now c.in_ok-lists.lists.rules c.in_ok-preds.preds
    c.as_slice.ensures c.in_ok-lists.ensures.lines c.in_ok-lists.ensures.clauses c.in_ok-lists.ensures.rules c.as_slice-2.ensures c.as_slice-3.ensures c.in_ok-preds.ensures

pub returns-clause-program : goal.returns-clause-program
returns-clause-program c = read_as c

pub returns-clause-well_formed : goal.returns-clause-well_formed
returns-clause-well_formed c = subst IsWellFormed (sym (read_as c)) (program_of-formed c.read_items.new.symbols c.args.ast.now)

pub returns-clause-named : goal.returns-clause-named
returns-clause-named c =
    let table = c.read_items.new.symbols in
    let reserved = begins-trans c.begins_reserved.ensures c.in_ok-lists.ensures.begins in
    let texts = subst (λ (ts : List (List ℕ)). AreIn ts (program_texts c.as_slice.result.now)) (sym c.in_ok-lists.ensures.table) (interned-in c.args.symbols.now (program_texts c.as_slice.result.now)) in
    let known = subst (λ is. AreIn table (program_texts is)) c.as_slice.ensures texts in
    subst (IsProgramNamed (length table)) (sym (read_as c)) (program_of-named table (reserved-long table reserved) c.args.ast.now known)
