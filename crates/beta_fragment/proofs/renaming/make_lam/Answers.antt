use Rattle.std.proofs.Common.{◌++◌, ◌∷◌, [], List, length, sym, subst}
use Rattle.level_terms.specs.Sound.{AllOlder}
use Rattle.level_terms.specs.declared.node.TermId.{TermId}
use Rattle.beta_fragment.specs.inside.Work.{Steps}
use Rattle.beta_fragment.specs.declared.renaming.Task.TheVariants.{Lam}
use Rattle.level_terms.proofs.MakeLemmas.{older-append, older-grown, older-front, older-last}
use Rattle.beta_fragment.proofs.WorkLemmas.{steps-lam}
use Rattle.beta_fragment.proofs.renaming.make_lam.Goals as goal

pub made_lam-requires : goal.made_lam-requires
made_lam-requires c = older-last (length c.args.heap.now.nodes) c.pop.new.self.items c.in-Some.body (subst (AllOlder (length c.args.heap.now.nodes)) c.in-Some.ensures.items c.requires.done)

pub returns-clause-steps : goal.returns-clause-steps
returns-clause-steps c = λ plan work.
    let front = older-front (length c.args.heap.now.nodes) c.pop.new.self.items (c.in-Some.body ∷ []) (subst (AllOlder (length c.args.heap.now.nodes)) c.in-Some.ensures.items c.requires.done) in
    subst (λ (ds : List TermId). Steps plan (record { heap = c.args.heap.now; work = work ++ Lam c.args.depth ∷ []; done = c.args.done.now.items }) (record { heap = c.made_lam.new.heap; work = work; done = ds })) (sym c.in_ok-push-in-Some.ensures.items)
    (subst (λ (ds : List TermId). Steps plan (record { heap = c.args.heap.now; work = work ++ Lam c.args.depth ∷ []; done = ds }) (record { heap = c.made_lam.new.heap; work = work; done = c.pop.new.self.items ++ c.in_ok-r-in-Some.r ∷ [] })) (sym c.in-Some.ensures.items)
    (steps-lam plan c.args.heap.now c.made_lam.new.heap work c.pop.new.self.items c.in-Some.body c.in_ok-r-in-Some.r c.args.depth c.is_sound.ensures c.in_ok-r-in-Some.ensures.grows front c.in_ok-r-in-Some.ensures.lam))

pub returns-clause-done : goal.returns-clause-done
returns-clause-done c =
    let front = older-front (length c.args.heap.now.nodes) c.pop.new.self.items (c.in-Some.body ∷ []) (subst (AllOlder (length c.args.heap.now.nodes)) c.in-Some.ensures.items c.requires.done) in
    subst (AllOlder (length c.made_lam.new.heap.nodes)) (sym c.in_ok-push-in-Some.ensures.items)
    (older-append (length c.made_lam.new.heap.nodes) c.pop.new.self.items (c.in_ok-r-in-Some.r ∷ []) (older-grown c.args.heap.now c.made_lam.new.heap c.in_ok-r-in-Some.ensures.grows c.pop.new.self.items front) (c.in_ok-r-in-Some.ensures.there, tt))
