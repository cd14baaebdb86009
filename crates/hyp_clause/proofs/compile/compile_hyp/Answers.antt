use Rattle.std.proofs.Common.{rules, map, ◌≡◌, ◌∙◌, ◌∷◌, List, [], refl, sym, ap, ap₂, subst}
use Rattle.ref_terms.specs.search.Assumption.{assumptions_of}
use Rattle.level_terms.specs.Reading.{read}
use Rattle.level_terms.proofs.GrowthLemmas.{grows-refl, grows-trans}
use Rattle.beta_fragment.specs.Names.{names}
use Rattle.hyp_clause.specs.declared.part.Part.{Part}
use Rattle.hyp_clause.specs.Hyps.{assumption_in, AllHypsValid}
use Rattle.hyp_clause.specs.inside.Parts.{Task}
use Rattle.hyp_clause.specs.inside.Waiting.{waiting, whole, AreParts}
use Rattle.hyp_clause.proofs.WaitLemmas.{all-read, whole-first, first-part, parts-taken, whole-kept, fault-kept}
use Rattle.hyp_clause.proofs.HeadedLemmas.{assumed-scoped, all-at_depth}
use Rattle.hyp_clause.proofs.compile.compile_hyp.Goals as goal

pub returns-in_err-add-clause-grows : goal.returns-in_err-add-clause-grows
returns-in_err-add-clause-grows c = grows-refl c.args.heap.now []

pub loop-part-init : goal.loop-part-init
loop-part-init c =
    let first : Task = record { term = c.args.t; pis = 0; forms = [] } in
    let waits : waiting c.add.new.parts.items ≡ first ∷ [] = c.in_ok-add.ensures ∙ ap (λ (ps : List Part). first ∷ waiting ps) c.new-parts.ensures.items in
    record {
      reads = ap₂ (whole c.args.heap.now c.args.depth) c.new-hyps.ensures waits ∙ whole-first c.args.heap.now c.args.depth c.args.t;
      parts = subst (AreParts c.args.heap.now c.args.depth) (sym waits) (first-part c.args.heap.now c.args.depth c.args.t c.requires);
      hyps = subst (AllHypsValid c.args.heap.now) (sym c.new-hyps.ensures) tt;
      variables = refl;
      grows = grows-refl c.args.heap.now [];
    }

pub step-requires-clause-part : goal.step-requires-clause-part
step-requires-clause-part c = parts-taken c.loop-part.heap c.args.depth c.loop-part.parts.items c.pop.new.self.items c.in-Some.part c.in-Some.ensures.items c.loop-part.invariant.parts

pub loop-part-preserved : goal.loop-part-preserved
loop-part-preserved c =
    let on = c.in-Ok.ensures.ok in
    let i = c.loop-part.invariant in
    record {
      reads = whole-kept c.loop-part.heap c.step.new.heap c.args.depth c.loop-part.hyps c.step.new.hyps c.loop-part.parts.items c.pop.new.self.items c.in-Some.part (waiting c.step.new.parts.items)
          (assumptions_of c.args.depth (read c.args.heap.now c.args.t.index names)) c.in-Some.ensures.items i.reads on;
      parts = on.parts;
      hyps = on.hyps;
      variables = c.step.ensures.variables ∙ i.variables;
      grows = grows-trans c.args.heap.now c.loop-part.heap c.step.new.heap [] [] [] i.grows c.step.ensures.grows;
    }

pub returns-in-Err-clause-fault : goal.returns-in-Err-clause-fault
returns-in-Err-clause-fault c =
    fault-kept c.loop-part.heap c.args.depth c.loop-part.hyps c.loop-part.parts.items c.pop.new.self.items c.in-Some.part
    (assumptions_of c.args.depth (read c.args.heap.now c.args.t.index names)) c.in-Err.stop c.in-Some.ensures.items c.loop-part.invariant.reads c.in-Err.ensures.fault

pub returns-in-Err-clause-grows : goal.returns-in-Err-clause-grows
returns-in-Err-clause-grows c = grows-trans c.args.heap.now c.loop-part.heap c.step.new.heap [] [] [] c.loop-part.invariant.grows c.step.ensures.grows

pub returns-clause-depth : goal.returns-clause-depth
returns-clause-depth c =
    let none : waiting c.loop-part.parts.items ≡ [] = search rules in
    let t = read c.args.heap.now c.args.t.index names in
    let reads = all-read c.loop-part.heap c.args.depth c.loop-part.hyps (waiting c.loop-part.parts.items) (assumptions_of c.args.depth t) none c.loop-part.invariant.reads in
    all-at_depth c.loop-part.heap c.args.depth c.loop-part.hyps (assumed-scoped c.args.depth t (map (assumption_in c.loop-part.heap) c.loop-part.hyps) (sym reads))
