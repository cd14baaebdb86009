use Rattle.std.proofs.Common.{◌++◌, ◌∷◌, [], List, length, sym, subst}
use Rattle.level_terms.specs.Sound.{AllOlder}
use Rattle.level_terms.specs.declared.node.TermId.{TermId}
use Rattle.level_terms.specs.Reading.{read}
use Rattle.level_terms.specs.Values.{value_of}
use Rattle.beta_fragment.specs.Moves.{putting}
use Rattle.beta_fragment.specs.inside.Work.{Steps}
use Rattle.beta_fragment.specs.declared.renaming.Task.TheVariants.{Visit}
use Rattle.level_terms.proofs.ReadLemmas.{valid-below}
use Rattle.level_terms.proofs.MakeLemmas.{older-append, older-grown}
use Rattle.beta_fragment.proofs.MoveLemmas.{node-before}
use Rattle.beta_fragment.proofs.PutLemmas.{put-level}
use Rattle.beta_fragment.proofs.WorkLemmas.{steps-done}
use Rattle.beta_fragment.proofs.putting.put_at_level.Goals as goal

pub returns-clause-steps : goal.returns-clause-steps
returns-clause-steps c = λ work.
    subst (λ (ds : List TermId). Steps (putting (read c.args.heap.now c.args.put.index) c.args.level) (record { heap = c.args.heap.now; work = work ++ Visit c.args.node c.args.base ∷ []; done = c.args.done.now.items }) (record { heap = c.put_level.new.heap; work = work; done = ds }))
    (sym c.in_ok-push.ensures.items)
    (steps-done (putting (read c.args.heap.now c.args.put.index) c.args.level) c.args.heap.now c.put_level.new.heap work c.args.done.now.items c.args.node c.in_ok-r.r c.args.base c.is_sound.ensures c.in_ok-r.ensures.grows c.requires.done
    (λ g s sg gr v low few. put-level g (read c.args.heap.now c.args.put.index) c.args.level c.args.node.index c.args.i s (value_of c.put_level.new.heap c.in_ok-r.r) sg (node-before g c.args.heap.now gr c.args.node.index _ (valid-below g c.args.node.index s v) c.requires.here) v low c.in_ok-r.ensures.level))

pub returns-clause-done : goal.returns-clause-done
returns-clause-done c =
    subst (AllOlder (length c.put_level.new.heap.nodes)) (sym c.in_ok-push.ensures.items)
    (older-append (length c.put_level.new.heap.nodes) c.args.done.now.items (c.in_ok-r.r ∷ []) (older-grown c.args.heap.now c.put_level.new.heap c.in_ok-r.ensures.grows c.args.done.now.items c.requires.done) (c.in_ok-r.ensures.there, tt))
