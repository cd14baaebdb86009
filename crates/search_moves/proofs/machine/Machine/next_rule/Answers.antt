use Rattle.std.proofs.Common.{length, reverse, sym, ap, ◌∙◌, subst}
use Rattle.ref_terms.specs.search.Program.{Program}
use Rattle.search_moves.specs.World.{code_nodes}
use Rattle.search_moves.specs.Machine.{Machine, alternatives_of, branch_of}
use Rattle.search_moves.proofs.CodeLemmas.{code-grown}
use Rattle.search_moves.proofs.SavedLemmas.{all-kept, all-read-kept}
use Rattle.search_moves.proofs.GrowLemmas.{grow-keeps, grow-fine}
use Rattle.search_moves.proofs.ReadingLemmas.{kept-reads}
use Rattle.search_moves.proofs.FireMoves.{grown-keeps, seen, answered-can-fire, both-ok}
use Rattle.search_moves.proofs.machine.Machine.next_rule.Goals as goal

pub invariant_of-self : goal.invariant_of-self
invariant_of-self g c =
    let w = c.self.inside.stage in
    let w' = c.next_rule.new.self in
    let saved = reverse c.self.inside.choices in
    record {
      fine = grow-fine w w' c.self.inside.first c.is_sound.ensures c.next_rule.ensures.grows c.next_rule.ensures.rest c.self.invariant.fine;
      saved = all-kept w w' saved c.self.invariant.saved (grow-keeps w w' saved c.next_rule.ensures.grows c.next_rule.ensures.rest c.self.invariant.saved);
    }

pub returns-clause-firing : goal.returns-clause-firing
returns-clause-firing g c =
    let w = c.self.inside.stage in
    let w' = c.next_rule.new.self in
    let q = subst (λ m. (p : Program) × g.R.Rules.stands (code_nodes m.world) c.args.rules.now p) (sym c.self.view_is) c.requires in
    let m : Machine = record { world = w; first = c.self.inside.first; saved = reverse c.self.inside.choices; phase = c.self.inside.phase } in
    let m' : Machine = record { world = w'; first = c.self.inside.first; saved = reverse c.self.inside.choices; phase = c.self.inside.phase } in
    let same = kept-reads w w' c.self.inside.first c.self.invariant.fine c.next_rule.ensures.rest (grown-keeps w w' c.is_sound.ensures c.next_rule.ensures.grows c.next_rule.ensures.readings) in
    both-ok c.next_rule.result (λ o leaves answers. answered-can-fire q.0 m m' o c.self.invariant.fine same leaves (answers q.0 (branch_of m) q.1 (seen m))) c.next_rule.ensures.leaves c.next_rule.ensures.answer

pub returns-clause-branch : goal.returns-clause-branch
returns-clause-branch g c =
    let w = c.self.inside.stage in
    let w' = c.next_rule.new.self in
    kept-reads w w' c.self.inside.first c.self.invariant.fine c.next_rule.ensures.rest (grown-keeps w w' c.is_sound.ensures c.next_rule.ensures.grows c.next_rule.ensures.readings)
    ∙ ap (λ m. record (branch_of m) { next_var = length w'.heap.depths }) c.self.view_is

pub returns-clause-code : goal.returns-clause-code
returns-clause-code g c =
    code-grown c.self.inside.stage c.next_rule.new.self c.self.inside.first c.next_rule.ensures.grows c.next_rule.ensures.rest c.self.invariant.fine
    ∙ ap (λ m. code_nodes m.world) c.self.view_is

pub returns-clause-alternatives : goal.returns-clause-alternatives
returns-clause-alternatives g c = λ p.
    let w = c.self.inside.stage in
    let w' = c.next_rule.new.self in
    let saved = reverse c.self.inside.choices in
    all-read-kept p w w' saved c.self.invariant.saved (grow-keeps w w' saved c.next_rule.ensures.grows c.next_rule.ensures.rest c.self.invariant.saved)
    ∙ ap (alternatives_of p) c.self.view_is
