use Rattle.std.proofs.Common.{◌++◌, ◌∷◌, [], List, length, ap, sym, ◌∙◌, subst}
use Rattle.level_terms.specs.Sound.{AllOlder}
use Rattle.level_terms.specs.declared.node.TermId.{TermId}
use Rattle.level_terms.specs.Reading.{read}
use Rattle.level_terms.proofs.GrowthLemmas.{grows-refl}
use Rattle.level_terms.proofs.ValidLemmas.{growth_keeps_valid, valid_deeper}
use Rattle.level_terms.specs.Values.{Value, value_of}
use Rattle.beta_fragment.specs.Moves.{putting}
use Rattle.beta_fragment.specs.inside.Work.{Steps}
use Rattle.beta_fragment.specs.declared.renaming.Task.TheVariants.{Visit}
use Rattle.level_terms.proofs.MakeLemmas.{older-append, value-kept}
use Rattle.level_terms.proofs.ReadLemmas.{valid-below}
use Rattle.beta_fragment.proofs.PutLemmas.{put-kept}
use Rattle.beta_fragment.proofs.WorkLemmas.{steps-done}
use Rattle.beta_fragment.proofs.putting.put_kept.Goals as goal

pub returns-clause-steps : goal.returns-clause-steps
returns-clause-steps c = λ work.
    subst (λ (ds : List TermId). Steps (putting (read c.args.heap.now c.args.put.index) c.args.level) (record { heap = c.args.heap.now; work = work ++ Visit c.args.node c.args.base ∷ []; done = c.args.done.now.items }) (record { heap = c.args.heap.now; work = work; done = ds }))
    (sym c.in_ok-push.ensures.items)
    (steps-done (putting (read c.args.heap.now c.args.put.index) c.args.level) c.args.heap.now c.args.heap.now work c.args.done.now.items c.args.node c.args.node c.args.base c.is_sound.ensures (grows-refl c.args.heap.now []) c.requires.done
    (λ g s sg gr v low few.
    let below = valid-below g c.args.node.index s v in
    let same = value-kept g c.args.heap.now sg gr c.args.node below in
    let later = growth_keeps_valid g c.args.heap.now [] [] c.args.node.index s sg gr below v in
    let kept = valid_deeper c.args.heap.now c.args.node.index c.args.depth c.args.level (c.requires.valid s later) c.requires.low in
    put-kept g (read c.args.heap.now c.args.put.index) c.args.level c.args.node.index s (value_of c.args.heap.now c.args.node)
    (ap (λ (x : Value). x.holds c.args.level) (sym same) ∙ kept) low (ap (λ (x : Value). x.term) same) (ap (λ (x : Value). x.holds) same)))

pub returns-clause-done : goal.returns-clause-done
returns-clause-done c =
    subst (AllOlder (length c.args.heap.now.nodes)) (sym c.in_ok-push.ensures.items)
    (older-append (length c.args.heap.now.nodes) c.args.done.now.items (c.args.node ∷ []) c.requires.done (c.requires.there, tt))
