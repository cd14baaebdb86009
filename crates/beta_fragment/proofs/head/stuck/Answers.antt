use Rattle.std.proofs.Common.{◌≡◌, ◌<◌, length, reverse, ap, ap₂, sym, ◌∙◌, subst, arith}
use Rattle.std.proofs.lemmas.List.{length-reverse}
use Rattle.ref_terms.specs.unification.Spine.{apply_all}
use Rattle.beta_fragment.specs.Names.{renamed}
use Rattle.beta_fragment.specs.HeadForm.{AllValidAt, all_read, FirstUnready, IsAbstraction, ReadsAsLam}
use Rattle.beta_fragment.proofs.HeadLemmas.{renamed-places, valid-grown_all, read-grown_all}
use Rattle.beta_fragment.proofs.TurnLemmas.{unready-first}
use Rattle.beta_fragment.proofs.head.stuck.Goals as goal

pub returns-clause-form : goal.returns-clause-form
returns-clause-form c = λ u k.
    let list : c.in_ok-list.list ≡ reverse c.args.args.now = c.in_ok-list.ensures in
    let some : 0 < length (reverse c.args.args.now) = (let l = length-reverse c.args.args.now in let e = c.if-is_empty.ensures in grind (arith, l, e, c.if-is_empty.false)) in
    let lam : ReadsAsLam c.renamed_lam.new.heap c.in_ok-r.r.index c.args.depth = record {
      node = c.in_ok-r.ensures.lam;
      valid = c.in_ok-r.ensures.valid;
      reads = subst IsAbstraction (sym c.in_ok-r.ensures.reads) (c.requires.certain (renamed c.args.levels.now) (renamed-places c.args.levels.now));
    } in (
      lam,
      subst (FirstUnready c.renamed_lam.new.heap) (sym list) (unready-first c.args.heap.now c.renamed_lam.new.heap c.args.depth (reverse c.args.args.now) c.is_sound.ensures c.in_ok-r.ensures.grows k.valid some c.requires.unready),
      subst (λ ts. AllValidAt c.renamed_lam.new.heap ts c.args.depth) (sym list) (valid-grown_all c.args.heap.now c.renamed_lam.new.heap c.args.depth c.is_sound.ensures c.in_ok-r.ensures.grows (reverse c.args.args.now) k.valid),
      k.reads ∙ ap₂ apply_all (sym c.in_ok-r.ensures.reads) (sym (ap (all_read c.renamed_lam.new.heap) list ∙ read-grown_all c.args.heap.now c.renamed_lam.new.heap c.args.depth c.is_sound.ensures c.in_ok-r.ensures.grows (reverse c.args.args.now) k.valid)),
    )
