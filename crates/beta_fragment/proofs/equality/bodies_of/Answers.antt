use Rattle.std.proofs.Common.{◌≡◌, ◌∙◌, ap, Some, suc, arith}
use Rattle.beta_fragment.proofs.PairLemmas.{left-there, right-there, bodies-stand}
use Rattle.beta_fragment.proofs.equality.bodies_of.Goals as goal

pub view-requires : goal.view-requires
view-requires c = left-there c.args.heap.now c.args.pair c.requires

pub view-requires-in-Lam : goal.view-requires-in-Lam
view-requires-in-Lam c = right-there c.args.heap.now c.args.pair c.requires

pub returns-then-made-other : goal.returns-then-made-other
returns-then-made-other c =
    let deep : c.in_ok-depth.depth ≡ suc c.in-Lam.made = (let a = c.in_ok-depth.ensures.1 in omega (arith, a)) in
    bodies-stand c.args.heap.now c.args.pair c.in-Lam.made c.in-Lam-view.other c.in_ok-depth.depth c.in-Lam.left c.in-Lam-view.right c.is_sound.ensures c.requires (c.view.ensures ∙ ap Some c.in-Lam.is) (c.view-in-Lam.ensures ∙ ap Some c.in-Lam-view.is) c.if-made-other.true deep
