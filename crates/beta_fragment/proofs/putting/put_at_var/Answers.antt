use Rattle.std.proofs.Common.{◌++◌, ◌∷◌, [], List, length, refl, sym, ◌∙◌, subst}
use Rattle.level_terms.specs.Sound.{AllOlder}
use Rattle.level_terms.specs.Reading.{read}
use Rattle.level_terms.specs.declared.node.TermId.{TermId}
use Rattle.level_terms.proofs.GrowthLemmas.{grows-refl}
use Rattle.beta_fragment.specs.inside.Work.{Steps}
use Rattle.level_terms.specs.Values.{value_of}
use Rattle.beta_fragment.specs.Moves.{putting, IsPutVar}
use Rattle.beta_fragment.specs.declared.renaming.Task.{Task}
use Rattle.beta_fragment.specs.declared.renaming.Task.TheVariants.{Visit}
use Rattle.level_terms.proofs.ReadLemmas.{valid-below}
use Rattle.level_terms.proofs.MakeLemmas.{older-append, older-grown}
use Rattle.beta_fragment.proofs.MoveLemmas.{node-before, assigned-before}
use Rattle.beta_fragment.proofs.VarLemmas.{var-known, depth-before, value-falls}
use Rattle.beta_fragment.proofs.PutLemmas.{put-var}
use Rattle.beta_fragment.proofs.PutWork.{put-value-leads}
use Rattle.beta_fragment.proofs.WorkLemmas.{steps-done, steps-more}
use Rattle.beta_fragment.proofs.putting.put_at_var.Goals as goal

pub returns-in_err-push-clause-grows : goal.returns-in_err-push-clause-grows
returns-in_err-push-clause-grows c = grows-refl c.args.heap.now []

pub returns-in-Some-clause-grows : goal.returns-in-Some-clause-grows
returns-in-Some-clause-grows c = grows-refl c.args.heap.now []

pub returns-in-Some-clause-steps : goal.returns-in-Some-clause-steps
returns-in-Some-clause-steps c =
    subst (λ (ws : List Task). Steps (putting (read c.args.heap.now c.args.put.index) c.args.level) (record { heap = c.args.heap.now; work = c.args.work.now.items ++ Visit c.args.node c.args.base ∷ []; done = c.args.done.now.items }) (record { heap = c.args.heap.now; work = ws; done = c.args.done.now.items })) (sym c.in_ok-push.ensures.items)
    (steps-more (putting (read c.args.heap.now c.args.put.index) c.args.level) c.args.heap.now c.args.work.now.items (Visit c.in-Some.value c.args.base ∷ []) (Visit c.in-Some.value c.args.base ∷ []) c.args.done.now.items c.args.node c.args.base refl
    (λ g sg gr s v. value-falls g c.args.heap.now c.args.node c.in-Some.value c.args.v c.args.base sg gr (valid-below g c.args.node.index s v) c.requires.here (sym c.in-Some.ensures.value))
    (λ g t base source k xs sg gr h. put-value-leads (read c.args.heap.now c.args.put.index) c.args.level g c.args.heap.now t base source c.args.node c.in-Some.value c.args.v c.args.base k xs sg gr c.requires.here (sym c.in-Some.ensures.value) c.requires.deep h))

pub returns-clause-steps : goal.returns-clause-steps
returns-clause-steps c =
    subst (λ (ds : List TermId). Steps (putting (read c.args.heap.now c.args.put.index) c.args.level) (record { heap = c.args.heap.now; work = c.args.work.now.items ++ Visit c.args.node c.args.base ∷ []; done = c.args.done.now.items }) (record { heap = c.put_var.new.heap; work = c.args.work.now.items; done = ds }))
    (sym c.in_ok-push-2.ensures.items)
    (steps-done (putting (read c.args.heap.now c.args.put.index) c.args.level) c.args.heap.now c.put_var.new.heap c.args.work.now.items c.args.done.now.items c.args.node c.in_ok-r.r c.args.base c.is_sound.ensures c.in_ok-r.ensures.grows c.requires.done
    (λ g s sg gr v low few.
    let below = valid-below g c.args.node.index s v in
    let here = node-before g c.args.heap.now gr c.args.node.index _ below c.requires.here in
    put-var g (read c.args.heap.now c.args.put.index) c.args.level c.args.node.index s c.args.v (value_of c.put_var.new.heap c.in_ok-r.r) sg here (sym (assigned-before g c.args.heap.now gr c.args.v.index) ∙ sym c.in_default.ensures.value) v low
    (subst (λ d. IsPutVar (read c.args.heap.now c.args.put.index) c.args.level c.args.v.index d (value_of c.put_var.new.heap c.in_ok-r.r)) (depth-before g c.args.heap.now gr c.args.v.index (var-known g c.args.node.index c.args.v sg here)) c.in_ok-r.ensures.var)))

pub returns-clause-done : goal.returns-clause-done
returns-clause-done c =
    subst (AllOlder (length c.put_var.new.heap.nodes)) (sym c.in_ok-push-2.ensures.items)
    (older-append (length c.put_var.new.heap.nodes) c.args.done.now.items (c.in_ok-r.r ∷ []) (older-grown c.args.heap.now c.put_var.new.heap c.in_ok-r.ensures.grows c.args.done.now.items c.requires.done) (c.in_ok-r.ensures.there, tt))
