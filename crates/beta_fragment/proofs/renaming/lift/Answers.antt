use Rattle.std.proofs.Common.{◌≡◌, ℕ, ◌≤◌, List, [], length, take, slice_index, ap, sym, ◌∙◌, subst}
use Rattle.std.proofs.lemmas.Result.{IfOk-weaker}
use Rattle.level_terms.proofs.GrowthLemmas.{grows-refl}
use Rattle.level_terms.specs.Values.{value_of}
use Rattle.beta_fragment.specs.Moves.{Moves, IsMove}
use Rattle.beta_fragment.proofs.LiftLemmas.{names-moved, lift-move}
use Rattle.beta_fragment.proofs.renaming.lift.Goals as goal

pub returns-clause-reads : goal.returns-clause-reads
returns-clause-reads c =
    IfOk-weaker c.moved_node.result _ _
    (λ r m. names-moved c.args.heap.now c.args.names.now c.args.from c.args.to c.args.t.index (value_of c.moved_node.new.heap r) c.requires.all c.requires.valid
    (subst (λ (ns : List ℕ). Moves c.args.heap.now ns c.args.to c.args.t.index (length ns) (length ns) (value_of c.moved_node.new.heap r)) (c.in_ok-levels.ensures ∙ ap (take c.args.from) c.as_slice.ensures) m))
    c.moved_node.ensures.moves

pub returns-in_err-levels-clause-grows : goal.returns-in_err-levels-clause-grows
returns-in_err-levels-clause-grows c = grows-refl c.args.heap.now []

pub moved_node-requires-clause-moves : goal.moved_node-requires-clause-moves
moved_node-requires-clause-moves c =
    let front : c.in_ok-levels.levels ≡ take c.args.from c.args.names.now = c.in_ok-levels.ensures ∙ ap (take c.args.from) c.as_slice.ensures in
    subst (λ (ns : List ℕ). IsMove ns c.fixed_names-fixed.result c.args.to) (sym front)
    (lift-move c.args.names.now c.args.from c.fixed_names-fixed.result c.args.to c.requires.all
    (subst (λ (ns : List ℕ). c.fixed_names-fixed.result ≤ length (take c.args.from ns)) c.as_slice.ensures c.fixed_names-fixed.ensures.few)
    (λ i k. subst (λ (ns : List ℕ). slice_index (take c.args.from ns) i ≡ i) c.as_slice.ensures (c.fixed_names-fixed.ensures.stay i k))
    c.requires.below)
