use Rattle.std.proofs.Common.{◌≡◌, ◌++◌, ◌∷◌, [], List, length, min, refl, ap, sym, ◌∙◌, subst, slice_index}
use Rattle.level_terms.specs.Sound.{AllOlder}
use Rattle.level_terms.specs.declared.node.TermId.{TermId}
use Rattle.level_terms.proofs.GrowthLemmas.{grows-refl}
use Rattle.beta_fragment.specs.inside.Work.{Steps}
use Rattle.beta_fragment.specs.Moves.{naming, IsMovedVar}
use Rattle.level_terms.specs.Values.{value_of}
use Rattle.beta_fragment.specs.declared.renaming.Task.{Task}
use Rattle.beta_fragment.specs.declared.renaming.Task.TheVariants.{Visit}
use Rattle.level_terms.proofs.ReadLemmas.{valid-below}
use Rattle.level_terms.proofs.MakeLemmas.{older-append, older-grown}
use Rattle.beta_fragment.proofs.MoveLemmas.{node-before, assigned-before}
use Rattle.beta_fragment.proofs.VarLemmas.{var-moves, var-known, depth-before, value-leads, value-falls}
use Rattle.beta_fragment.proofs.WorkLemmas.{steps-done, steps-more}
use Rattle.beta_fragment.proofs.renaming.visit_var.Goals as goal

pub returns-in_err-push-clause-grows : goal.returns-in_err-push-clause-grows
returns-in_err-push-clause-grows c = grows-refl c.args.heap.now []

pub returns-in-Some-clause-grows : goal.returns-in-Some-clause-grows
returns-in-Some-clause-grows c = grows-refl c.args.heap.now []

pub returns-in-Some-clause-steps : goal.returns-in-Some-clause-steps
returns-in-Some-clause-steps c =
    let base : c.min.result ≡ min c.args.base (slice_index c.args.heap.now.depths c.args.v.index) = c.min.ensures ∙ ap (min c.args.base) c.var_depth-depth.ensures in
    let pushed : c.push.new.self.items ≡ c.args.work.now.items ++ Visit c.in-Some.value (min c.args.base (slice_index c.args.heap.now.depths c.args.v.index)) ∷ [] = c.in_ok-push.ensures.items ∙ ap (λ b. c.args.work.now.items ++ Visit c.in-Some.value b ∷ []) base in
    subst (λ (ws : List Task). Steps (naming c.args.names.now c.args.to) (record { heap = c.args.heap.now; work = c.args.work.now.items ++ Visit c.args.node c.args.base ∷ []; done = c.args.done.now.items }) (record { heap = c.args.heap.now; work = ws; done = c.args.done.now.items })) (sym pushed)
    (steps-more (naming c.args.names.now c.args.to) c.args.heap.now c.args.work.now.items (Visit c.in-Some.value (min c.args.base (slice_index c.args.heap.now.depths c.args.v.index)) ∷ []) (Visit c.in-Some.value (min c.args.base (slice_index c.args.heap.now.depths c.args.v.index)) ∷ []) c.args.done.now.items c.args.node c.args.base refl
    (λ g sg gr s v. value-falls g c.args.heap.now c.args.node c.in-Some.value c.args.v (min c.args.base (slice_index c.args.heap.now.depths c.args.v.index)) sg gr (valid-below g c.args.node.index s v) c.requires.here (sym c.in-Some.ensures.value))
    (λ g t base source k xs sg gr h. value-leads c.args.names.now c.args.to g c.args.heap.now t base source c.args.node c.in-Some.value c.args.v c.args.base k xs sg gr c.requires.here (sym c.in-Some.ensures.value) h))

pub returns-clause-steps : goal.returns-clause-steps
returns-clause-steps c =
    subst (λ (ds : List TermId). Steps (naming c.args.names.now c.args.to) (record { heap = c.args.heap.now; work = c.args.work.now.items ++ Visit c.args.node c.args.base ∷ []; done = c.args.done.now.items }) (record { heap = c.moved_var.new.heap; work = c.args.work.now.items; done = ds }))
    (sym c.in_ok-push-2.ensures.items)
    (steps-done (naming c.args.names.now c.args.to) c.args.heap.now c.moved_var.new.heap c.args.work.now.items c.args.done.now.items c.args.node c.in_ok-r.r c.args.base c.is_sound.ensures c.in_ok-r.ensures.grows c.requires.done
    (λ g s sg gr v low few.
    let below = valid-below g c.args.node.index s v in
    let here = node-before g c.args.heap.now gr c.args.node.index _ below c.requires.here in
    var-moves g c.args.names.now c.args.to c.args.node.index c.args.base s c.args.v (value_of c.moved_var.new.heap c.in_ok-r.r) sg c.requires.below here (sym (assigned-before g c.args.heap.now gr c.args.v.index) ∙ sym c.in_default.ensures.value) v low few
    (subst (λ d. IsMovedVar c.args.names.now c.args.base c.args.to c.args.v.index d (value_of c.moved_var.new.heap c.in_ok-r.r)) (depth-before g c.args.heap.now gr c.args.v.index (var-known g c.args.node.index c.args.v sg here)) c.in_ok-r.ensures.moved)))

pub returns-clause-done : goal.returns-clause-done
returns-clause-done c =
    subst (AllOlder (length c.moved_var.new.heap.nodes)) (sym c.in_ok-push-2.ensures.items)
    (older-append (length c.moved_var.new.heap.nodes) c.args.done.now.items (c.in_ok-r.r ∷ []) (older-grown c.args.heap.now c.moved_var.new.heap c.in_ok-r.ensures.grows c.args.done.now.items c.requires.done) (c.in_ok-r.ensures.there, tt))
