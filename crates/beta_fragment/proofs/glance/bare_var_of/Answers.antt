use Rattle.std.proofs.Common.{◌≡◌, suc, ◌∙◌, ap, Some, subst, arith, length}
use Rattle.level_terms.specs.declared.node.Node.TheVariants.{Lam}
use Rattle.level_terms.proofs.FoldLemmas.{parts_older, names_older}
use Rattle.level_terms.specs.Values.{IsVarOf, value_of}
use Rattle.level_terms.proofs.MakeLemmas.{parts-there}
use Rattle.beta_fragment.proofs.VarLemmas.{lam-var}
use Rattle.beta_fragment.proofs.FirmLemmas.{lam-known}
use Rattle.beta_fragment.proofs.TurnLemmas.{some-weaker}
use Rattle.beta_fragment.proofs.glance.bare_var_of.Goals as goal

pub loop-depth-smaller : goal.loop-depth-smaller
loop-depth-smaller c = (parts_older c.args.heap.now.nodes c.loop-depth.node.index (Lam c.in-Lam.depth c.in-Lam.body) (names_older (length c.args.heap.now.depths) c.args.heap.now.nodes c.is_sound.ensures.made) (c.view.ensures ∙ ap Some c.in-Lam.is)).0

pub loop-depth-preserved : goal.loop-depth-preserved
loop-depth-preserved c =
    let here = c.view.ensures ∙ ap Some c.in-Lam.is in
    let next : c.in_ok-count.count ≡ suc c.in-Lam.depth = (let a = c.in_ok-count.ensures.1 in let b = c.if-depth-count.false in omega (arith, a, b)) in
    record {
      there = (parts-there c.args.heap.now c.loop-depth.node.index (Lam c.in-Lam.depth c.in-Lam.body) c.is_sound.ensures here).0;
      leads = λ v w. c.loop-depth.invariant.leads v (subst (λ d. IsVarOf v d (value_of c.args.heap.now c.loop-depth.node)) c.if-depth-count.false
          (lam-var v c.in-Lam.depth (value_of c.args.heap.now c.in-Lam.body) (value_of c.args.heap.now c.loop-depth.node) (lam-known c.args.heap.now c.loop-depth.node c.in-Lam.depth c.in-Lam.body c.is_sound.ensures here)
          (subst (λ d. IsVarOf v d (value_of c.args.heap.now c.in-Lam.body)) next w)));
    }

pub returns : goal.returns
returns c = some-weaker c.open_var.result _ _ (λ v w. (w.0, w.1, c.loop-depth.invariant.leads v.index w.2)) c.open_var.ensures
