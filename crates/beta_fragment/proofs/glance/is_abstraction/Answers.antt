use Rattle.std.proofs.Common.{◌∙◌, suc, ap, Some, length}
use Rattle.level_terms.specs.declared.node.Node.TheVariants.{Lam}
use Rattle.level_terms.proofs.FoldLemmas.{parts_older, names_older}
use Rattle.level_terms.proofs.MakeLemmas.{parts-there}
use Rattle.beta_fragment.proofs.EnterLemmas.{body-valid}
use Rattle.beta_fragment.proofs.FirmLemmas.{lam-abstraction, abstraction-ends}
use Rattle.beta_fragment.proofs.glance.is_abstraction.Goals as goal

pub view-requires-in-Lam : goal.view-requires-in-Lam
view-requires-in-Lam c = (parts-there c.args.heap.now c.loop-depth.node.index (Lam c.in-Lam.depth c.in-Lam.body) c.is_sound.ensures (c.view.ensures ∙ ap Some c.in-Lam.is)).0

pub ends_otherwise-requires : goal.ends_otherwise-requires
ends_otherwise-requires c = (parts-there c.args.heap.now c.loop-depth.node.index (Lam c.in-Lam.depth c.in-Lam.body) c.is_sound.ensures (c.view.ensures ∙ ap Some c.in-Lam.is)).0

pub returns-then-not-matches : goal.returns-then-not-matches
returns-then-not-matches c = λ q s v.
    let here = c.view.ensures ∙ ap Some c.in-Lam.is in
    let valid = c.loop-depth.invariant.valid s v in
    c.loop-depth.invariant.leads (lam-abstraction c.args.heap.now c.loop-depth.node.index c.in-Lam.depth c.in-Lam.body c.is_sound.ensures here
    (c.ends_otherwise.ensures q (suc c.in-Lam.depth) (body-valid c.args.heap.now c.is_sound.ensures c.loop-depth.node.index c.in-Lam.depth c.in-Lam.body valid.0 here valid.1)))

pub loop-depth-smaller : goal.loop-depth-smaller
loop-depth-smaller c = (parts_older c.args.heap.now.nodes c.loop-depth.node.index (Lam c.in-Lam.depth c.in-Lam.body) (names_older (length c.args.heap.now.depths) c.args.heap.now.nodes c.is_sound.ensures.made) (c.view.ensures ∙ ap Some c.in-Lam.is)).0

pub loop-depth-preserved : goal.loop-depth-preserved
loop-depth-preserved c =
    let here = c.view.ensures ∙ ap Some c.in-Lam.is in
    record {
      there = (parts-there c.args.heap.now c.loop-depth.node.index (Lam c.in-Lam.depth c.in-Lam.body) c.is_sound.ensures here).0;
      valid = λ s v. let valid = c.loop-depth.invariant.valid s v in (suc c.in-Lam.depth, body-valid c.args.heap.now c.is_sound.ensures c.loop-depth.node.index c.in-Lam.depth c.in-Lam.body valid.0 here valid.1);
      leads = λ w. c.loop-depth.invariant.leads (lam-abstraction c.args.heap.now c.loop-depth.node.index c.in-Lam.depth c.in-Lam.body c.is_sound.ensures here (abstraction-ends c.args.heap.now c.in-Lam.body.index c.in-Lam.depth w));
    }

pub loop-depth-init : goal.loop-depth-init
loop-depth-init c = record {
  there = c.requires;
  valid = λ s v. (s, v);
  leads = λ w. w;
}
