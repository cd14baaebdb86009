use Rattle.std.proofs.Common.{◌≡◌, ◌+◌, ◌≤◌, [], length, refl, sym, ap, ◌∙◌, subst, arith}
use Rattle.std.proofs.lemmas.Result.{IfOk-weaker}
use Rattle.level_terms.specs.Reading.{read}
use Rattle.level_terms.specs.Valid.{IsValid}
use Rattle.level_terms.proofs.GrowthLemmas.{grows-refl}
use Rattle.ref_terms.specs.terms.Apply.{fill}
use Rattle.beta_fragment.specs.Names.{names, renamed}
use Rattle.level_terms.specs.Values.{value_of}
use Rattle.beta_fragment.specs.Instantiation.{put_names}
use Rattle.beta_fragment.proofs.HeadLemmas.{renamed-node, renamed-valid}
use Rattle.beta_fragment.proofs.InstantLemmas.{put-anywhere, begins-own, begins-renamed, stand-move}
use Rattle.beta_fragment.proofs.instantiating.with_stand_ins.Goals as goal

pub returns-then-from-to-clause-grows : goal.returns-then-from-to-clause-grows
returns-then-from-to-clause-grows c = grows-refl c.args.heap.now []

pub returns-in_err-end-clause-grows : goal.returns-in_err-end-clause-grows
returns-in_err-end-clause-grows c = grows-refl c.args.heap.now []

pub returns-in_err-levels-clause-grows : goal.returns-in_err-levels-clause-grows
returns-in_err-levels-clause-grows c = grows-refl c.args.heap.now []

pub moved_node-requires-clause-moves : goal.moved_node-requires-clause-moves
moved_node-requires-clause-moves c = stand-move c.args.from c.args.to c.args.count c.in_ok-end.end c.in_ok-levels.levels c.requires.low c.in_ok-end.ensures c.in_ok-levels.ensures.count c.in_ok-levels.ensures.own c.in_ok-levels.ensures.more

pub returns-clause-reads : goal.returns-clause-reads
returns-clause-reads c = IfOk-weaker c.moved_node.result _ _
    (λ r m ss long.
    let valid = subst (λ n. IsValid c.args.heap.now c.args.t.index (c.args.from + n)) (sym long) c.requires.valid in
    ap (fill (put_names c.args.to ss)) (renamed-node c.args.heap.now c.in_ok-levels.levels c.in_ok-end.end c.args.t.index (value_of c.moved_node.new.heap r) (subst (IsValid c.args.heap.now c.args.t.index) (sym c.in_ok-levels.ensures.count) c.requires.valid) m)
    ∙ put-anywhere c.args.heap.now c.args.t.index c.args.from c.args.to c.args.from (renamed c.in_ok-levels.levels) names ss c.is_sound.ensures valid c.requires.low (omega arith)
    (begins-renamed c.args.from c.args.to (length ss) c.in_ok-levels.levels c.in_ok-levels.ensures.own (λ j h. c.in_ok-levels.ensures.more j (omega (arith, h, long))))
    (begins-own c.args.from (length ss)))
    c.moved_node.ensures.moves
