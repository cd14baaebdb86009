use Rattle.std.proofs.Common.{◌∙◌, length, replicate, false, unwrap_or, sym, ap}
use Rattle.std.proofs.lemmas.List.{length-map}
use Rattle.level_terms.specs.Reading.{read}
use Rattle.beta_fragment.specs.HeadForm.{all_read}
use Rattle.beta_fragment.specs.Names.{names}
use Rattle.ref_terms.specs.search.Program.{Program}
use Rattle.ref_terms.specs.search.Formula.{Atom}
use Rattle.search_moves.specs.World.{code_nodes}
use Rattle.search_moves.specs.declared.machine.Event.{Event}
use Rattle.search_moves.specs.Machine.{move_of, HasMoved}
use Rattle.search_moves.proofs.CallMoves.{call-arity, stated-known}
use Rattle.search_moves.proofs.FormLemmas.{atom-is}
use Rattle.search_moves.proofs.MoveLemmas.{broken-off, if-ok}
use Rattle.search_moves.proofs.machine.Machine.call.Goals as goal

pub call_unstated-requires-clause-unstated : goal.call_unstated-requires-clause-unstated
call_unstated-requires-clause-unstated g c = λ p stands. c.in-None.ensures _ p stands

pub returns-then-args-inputs-clause-moved : goal.returns-then-args-inputs-clause-moved
returns-then-args-inputs-clause-moved g c = λ p stands.
    let m = c.args.self.now in
    broken-off p _ m c.break_off.new.self _ c.break_off.result
    (call-arity p m c.args.goal.now c.args.c.0 (all_read m.world.heap c.args.args.now) c.in-Some.inputs.now (c.in-Some.ensures _ p stands)
    (λ e. c.if-args-inputs.true (sym (length-map c.args.args.now (λ t. read m.world.heap t.index names)) ∙ e)))
    c.break_off.ensures.fault c.break_off.ensures.phase

pub call_candidates-requires-clause-call : goal.call_candidates-requires-clause-call
call_candidates-requires-clause-call g c =
    let m = c.args.self.now in
    let atom = atom-is (read m.world.heap c.args.goal.now.term.index names) c.args.c.0 (all_read m.world.heap c.args.args.now) c.requires.atom in
    record { first = c.requires.first; args = c.requires.arguments; head = atom.head; arguments = atom.arguments }

pub returns-else-args-inputs-clause-moved : goal.returns-else-args-inputs-clause-moved
returns-else-args-inputs-clause-moved g c =
    let old = c.args.self.now in
    let new = c.call_candidates.new.self in
    let ts = all_read old.world.heap c.args.args.now in
    if-ok c.call_candidates.result _
    (λ (e : Event). (p : Program) → g.C.Clauses.stands (code_nodes old.world) c.args.code.now p → HasMoved p (move_of p old c.args.goal.now (Atom c.args.c.0 ts)) e new)
    (λ e h p stands.
    let known = c.in-Some.ensures _ p stands in
    h p stands (sym (ap (λ o. unwrap_or o (replicate (length c.args.args.now) false)) known))
    (stated-known p c.args.c.0 ts _ c.in-Some.inputs.now known (length-map c.args.args.now (λ t. read old.world.heap t.index names) ∙ c.if-args-inputs.false)))
    c.call_candidates.ensures.moved
