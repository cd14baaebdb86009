use Rattle.std.proofs.Common.{◌≡◌, ◌<◌, [], length, reverse, arith}
use Rattle.std.proofs.lemmas.List.{length-reverse}
use Rattle.beta_fragment.specs.inside.Cells.{terms_of, term_at}
use Rattle.beta_fragment.proofs.SplitLemmas.{empty-list}
use Rattle.beta_fragment.proofs.SettledLemmas.{lam-form, redex-form}
use Rattle.beta_fragment.proofs.settling.lam_form.Goals as goal

pub returns-then-is_empty-clause-form : goal.returns-then-is_empty-clause-form
returns-then-is_empty-clause-form c = λ u k.
    let none : c.args.args.now ≡ [] = (let e = c.if-is_empty.ensures in empty-list c.args.args.now (grind (arith, e, c.if-is_empty.true))) in
    lam-form c.args.heap.now c.quoted.new.heap c.args.depth u (term_at (terms_of c.args.cells.now) c.args.t) c.args.args.now c.in_ok-r.r k c.requires.lam c.in_ok-r.ensures.reads c.in_ok-r.ensures.valid (c.in_ok-r.ensures.lam c.requires.lam) none

pub returns-clause-form : goal.returns-clause-form
returns-clause-form c = λ u k.
    let some : 0 < length (reverse c.args.args.now) = (let l = length-reverse c.args.args.now in let e = c.if-is_empty.ensures in grind (arith, l, e, c.if-is_empty.false)) in
    redex-form c.args.heap.now c.quoted.new.heap c.args.depth u (term_at (terms_of c.args.cells.now) c.args.t) c.args.args.now c.in_ok-list.list c.in_ok-r.r c.is_sound.ensures c.in_ok-r.ensures.grows k c.requires.lam c.in_ok-r.ensures.reads c.in_ok-r.ensures.valid (c.in_ok-r.ensures.lam c.requires.lam) c.in_ok-list.ensures some
