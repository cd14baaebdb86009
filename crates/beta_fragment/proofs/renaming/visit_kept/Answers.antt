use Rattle.std.proofs.Common.{◌++◌, ◌∷◌, [], List, length, ap, sym, ◌∙◌, subst}
use Rattle.level_terms.specs.Sound.{AllOlder}
use Rattle.level_terms.specs.declared.node.TermId.{TermId}
use Rattle.level_terms.proofs.GrowthLemmas.{grows-refl}
use Rattle.level_terms.proofs.ValidLemmas.{growth_keeps_valid}
use Rattle.beta_fragment.specs.inside.Work.{Steps}
use Rattle.beta_fragment.specs.Moves.{naming}
use Rattle.level_terms.specs.Values.{Value, value_of}
use Rattle.beta_fragment.specs.declared.renaming.Task.TheVariants.{Visit}
use Rattle.level_terms.proofs.MakeLemmas.{older-append, value-kept}
use Rattle.level_terms.proofs.ReadLemmas.{valid-below}
use Rattle.beta_fragment.proofs.MoveLemmas.{kept-moves}
use Rattle.beta_fragment.proofs.WorkLemmas.{steps-done}
use Rattle.beta_fragment.proofs.renaming.visit_kept.Goals as goal

pub returns-clause-steps : goal.returns-clause-steps
returns-clause-steps c = λ work.
    subst (λ (ds : List TermId). Steps (naming c.args.names.now c.args.to) (record { heap = c.args.heap.now; work = work ++ Visit c.args.node c.args.base ∷ []; done = c.args.done.now.items }) (record { heap = c.args.heap.now; work = work; done = ds }))
    (sym c.in_ok-push.ensures.items)
    (steps-done (naming c.args.names.now c.args.to) c.args.heap.now c.args.heap.now work c.args.done.now.items c.args.node c.args.node c.args.base c.is_sound.ensures (grows-refl c.args.heap.now []) c.requires.done
    (λ g s sg gr v low few.
    let below = valid-below g c.args.node.index s v in
    let same = value-kept g c.args.heap.now sg gr c.args.node below in
    let later = growth_keeps_valid g c.args.heap.now [] [] c.args.node.index s sg gr below v in
    let kept = c.requires.valid s later in
    kept-moves g c.args.names.now c.args.fixed c.args.to c.args.node.index c.args.base s c.args.depth (value_of c.args.heap.now c.args.node) c.requires.moves
    (ap (λ (x : Value). x.holds c.args.depth) (sym same) ∙ kept) c.requires.fixed c.requires.base (ap (λ (x : Value). x.term) same) (ap (λ (x : Value). x.holds) same)))

pub returns-clause-done : goal.returns-clause-done
returns-clause-done c =
    subst (AllOlder (length c.args.heap.now.nodes)) (sym c.in_ok-push.ensures.items)
    (older-append (length c.args.heap.now.nodes) c.args.done.now.items (c.args.node ∷ []) c.requires.done (c.requires.there, tt))
