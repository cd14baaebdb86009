use Rattle.std.proofs.Common.{[], suc, ap, sym, subst, arith}
use Rattle.std.proofs.lemmas.Result.{IfOk-weaker}
use Rattle.level_terms.specs.Valid.{IsValid}
use Rattle.level_terms.specs.Reading.{read}
use Rattle.level_terms.proofs.GrowthLemmas.{grows-refl}
use Rattle.level_terms.proofs.ValidLemmas.{valid_deeper}
use Rattle.level_terms.specs.Values.{value_of}
use Rattle.beta_fragment.proofs.EnterLemmas.{body-valid}
use Rattle.beta_fragment.proofs.OpenLemmas.{own-name, own-more, opened-move, opened-node, opened-valid}
use Rattle.beta_fragment.proofs.opening.opened.Goals as goal

pub returns-then-name-made-clause-reads : goal.returns-then-name-made-clause-reads
returns-then-name-made-clause-reads c = ap (read c.args.heap.now c.args.body.index) (own-name c.args.made c.args.name (sym c.if-name-made.true))

pub returns-then-name-made-clause-valid : goal.returns-then-name-made-clause-valid
returns-then-name-made-clause-valid c =
    let low = c.requires.name in
    let same = c.if-name-made.true in
    valid_deeper c.args.heap.now c.args.body.index (suc c.args.made) c.args.to (body-valid c.args.heap.now c.is_sound.ensures c.args.lam.index c.args.made c.args.body c.args.made c.requires.here c.requires.valid) (omega (arith, low, same))

pub returns-then-name-made-clause-grows : goal.returns-then-name-made-clause-grows
returns-then-name-made-clause-grows c = grows-refl c.args.heap.now []

pub returns-in_err-push-clause-grows : goal.returns-in_err-push-clause-grows
returns-in_err-push-clause-grows c = grows-refl c.args.heap.now []

pub moved_node-requires-clause-moves : goal.moved_node-requires-clause-moves
moved_node-requires-clause-moves c = opened-move c.args.made c.args.name c.args.to c.own-levels.result c.push.new.self c.own-levels.ensures.count c.own-levels.ensures.own c.in_ok-push.ensures c.requires.name c.requires.low

pub moved_node-requires-clause-valid : goal.moved_node-requires-clause-valid
moved_node-requires-clause-valid c =
    subst (IsValid c.args.heap.now c.args.body.index) (sym (own-more c.args.made c.args.name c.own-levels.result c.push.new.self c.own-levels.ensures.count c.in_ok-push.ensures))
    (body-valid c.args.heap.now c.is_sound.ensures c.args.lam.index c.args.made c.args.body c.args.made c.requires.here c.requires.valid)

pub returns-clause-reads : goal.returns-clause-reads
returns-clause-reads c = IfOk-weaker c.moved_node.result _ _
    (λ r m. opened-node c.args.heap.now c.args.made c.args.name c.args.to c.args.body.index c.own-levels.result c.push.new.self (value_of c.moved_node.new.heap r) c.own-levels.ensures.count c.own-levels.ensures.own c.in_ok-push.ensures
    (body-valid c.args.heap.now c.is_sound.ensures c.args.lam.index c.args.made c.args.body c.args.made c.requires.here c.requires.valid) m)
    c.moved_node.ensures.moves

pub returns-clause-valid : goal.returns-clause-valid
returns-clause-valid c = IfOk-weaker c.moved_node.result _ _ (λ r m. opened-valid c.args.heap.now c.args.to c.args.body.index c.push.new.self (value_of c.moved_node.new.heap r) m) c.moved_node.ensures.moves
