use Rattle.std.proofs.Common.{◌≡◌, ◌∷◌, [], List, length, sym, ◌∙◌, subst}
use Rattle.level_terms.specs.declared.node.Node.TheVariants.{App}
use Rattle.level_terms.specs.declared.node.TermId.{TermId}
use Rattle.level_terms.specs.Sound.{AllOlder}
use Rattle.level_terms.proofs.GrowthLemmas.{grows-refl}
use Rattle.level_terms.proofs.MakeLemmas.{head-none}
use Rattle.builtins.proofs.ApplyLemmas.{last-older, last-made}
use Rattle.builtins.proofs.applying.with_last.Goals as goal

pub returns-in_err-push-clause-grows : goal.returns-in_err-push-clause-grows
returns-in_err-push-clause-grows c = grows-refl c.args.heap.now []

pub app-requires-clause-head : goal.app-requires-clause-head
app-requires-clause-head c = (last-older c.args.heap.now c.args.f c.args.a c.args.depth c.is_sound.ensures c.requires.argument c.args.head c.args.args c.requires.here).0

pub app-requires-clause-no_application : goal.app-requires-clause-no_application
app-requires-clause-no_application c = head-none c.args.heap.now c.args.f.index c.args.head c.args.args c.is_sound.ensures c.requires.here

pub app-requires-clause-args : goal.app-requires-clause-args
app-requires-clause-args c =
    subst (AllOlder (length c.args.heap.now.nodes)) (sym (c.as_slice.ensures ∙ c.in_ok-push.ensures.last))
    (last-older c.args.heap.now c.args.f c.args.a c.args.depth c.is_sound.ensures c.requires.argument c.args.head c.args.args c.requires.here).1

pub returns-clause-reads : goal.returns-clause-reads
returns-clause-reads c =
    (last-made c.args.heap.now c.app.new.self c.args.f c.args.a c.in_ok-r.r c.args.depth c.is_sound.ensures c.is_sound-2.ensures c.requires.function c.requires.argument c.in_ok-r.ensures.ok.0 c.args.head c.args.args c.requires.here
    (subst (λ (ts : List TermId). c.app.new.self ≡ record c.args.heap.now { nodes = App c.args.head ts ∷ c.args.heap.now.nodes }) (c.as_slice.ensures ∙ c.in_ok-push.ensures.last) c.in_ok-r.ensures.ok.1)).0

pub returns-clause-valid : goal.returns-clause-valid
returns-clause-valid c =
    (last-made c.args.heap.now c.app.new.self c.args.f c.args.a c.in_ok-r.r c.args.depth c.is_sound.ensures c.is_sound-2.ensures c.requires.function c.requires.argument c.in_ok-r.ensures.ok.0 c.args.head c.args.args c.requires.here
    (subst (λ (ts : List TermId). c.app.new.self ≡ record c.args.heap.now { nodes = App c.args.head ts ∷ c.args.heap.now.nodes }) (c.as_slice.ensures ∙ c.in_ok-push.ensures.last) c.in_ok-r.ensures.ok.1)).1
