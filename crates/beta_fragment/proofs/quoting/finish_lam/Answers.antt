use Rattle.std.proofs.Common.{◌+◌, ap, [], length, sym, ◌∙◌, subst}
use Rattle.level_terms.specs.Sound.{AllOlder}
use Rattle.level_terms.proofs.GrowthLemmas.{grows-refl}
use Rattle.level_terms.proofs.MakeLemmas.{older-last}
use Rattle.beta_fragment.proofs.QuoteWork.{lam-done}
use Rattle.beta_fragment.proofs.quoting.finish_lam.Goals as goal

pub returns-in_err-level-clause-grows : goal.returns-in_err-level-clause-grows
returns-in_err-level-clause-grows c = grows-refl c.args.heap.now []

pub made_lam-requires : goal.made_lam-requires
made_lam-requires c = older-last (length c.args.heap.now.nodes) c.pop.new.self.items c.in-Some.body (subst (AllOlder (length c.args.heap.now.nodes)) c.in-Some.ensures.items c.requires.done)

pub returns-clause-steps : goal.returns-clause-steps
returns-clause-steps c = λ s u work e q.
    lam-done s u c.args.heap.now c.made_lam.new.heap work c.pop.new.self.items c.args.done.now.items c.push.new.self.items c.in-Some.body c.in_ok-r-in-Some.r c.args.under c.in_ok-level.level c.is_sound.ensures c.in_ok-r-in-Some.ensures.grows
    (c.in_ok-level.ensures ∙ ap (λ d. d + c.args.under) (sym e)) c.in_ok-r-in-Some.ensures.lam c.in-Some.ensures.items c.in_ok-push-in-Some.ensures.items q
