use Rattle.std.proofs.Common.{◌≡◌, true, ◌∙◌, ap, Some}
use Rattle.ref_terms.specs.terms.Ready.{ready}
use Rattle.beta_fragment.proofs.FirmLemmas.{by-node, head-ready, level-ready}
use Rattle.beta_fragment.proofs.glance.is_rigid.Goals as goal

pub returns-in-Con : goal.returns-in-Con
returns-in-Con c = λ _. by-node (λ x. ready x ≡ true) c.args.heap.now c.args.t.index _ c.is_sound.ensures (c.view.ensures ∙ ap Some c.in-Con.is) (λ env p. head-ready _ tt)

pub returns-in-Int : goal.returns-in-Int
returns-in-Int c = λ _. by-node (λ x. ready x ≡ true) c.args.heap.now c.args.t.index _ c.is_sound.ensures (c.view.ensures ∙ ap Some c.in-Int.is) (λ env p. head-ready _ tt)

pub returns-in-Str : goal.returns-in-Str
returns-in-Str c = λ _. by-node (λ x. ready x ≡ true) c.args.heap.now c.args.t.index _ c.is_sound.ensures (c.view.ensures ∙ ap Some c.in-Str.is) (λ env p. head-ready _ tt)

pub returns-in-Level : goal.returns-in-Level
returns-in-Level c = λ _. level-ready c.args.heap.now c.args.t.index _ c.is_sound.ensures (c.view.ensures ∙ ap Some c.in-Level.is)
