use Rattle.std.proofs.Common.{◌∙◌, ap, Some}
use Rattle.beta_fragment.specs.Firm.{IsFirm}
use Rattle.level_terms.proofs.MakeLemmas.{parts-there}
use Rattle.beta_fragment.proofs.FirmLemmas.{by-node, app-firm}
use Rattle.beta_fragment.proofs.glance.is_firm_end.Goals as goal

pub returns-in-Con : goal.returns-in-Con
returns-in-Con c = λ _. by-node IsFirm c.args.heap.now c.args.t.index _ c.is_sound.ensures (c.view.ensures ∙ ap Some c.in-Con.is) (λ env p. tt)

pub returns-in-Int : goal.returns-in-Int
returns-in-Int c = λ _. by-node IsFirm c.args.heap.now c.args.t.index _ c.is_sound.ensures (c.view.ensures ∙ ap Some c.in-Int.is) (λ env p. tt)

pub returns-in-Str : goal.returns-in-Str
returns-in-Str c = λ _. by-node IsFirm c.args.heap.now c.args.t.index _ c.is_sound.ensures (c.view.ensures ∙ ap Some c.in-Str.is) (λ env p. tt)

pub is_firm_head-requires : goal.is_firm_head-requires
is_firm_head-requires c = (parts-there c.args.heap.now c.args.t.index _ c.is_sound.ensures (c.view.ensures ∙ ap Some c.in-App.is)).0

pub returns-in-App : goal.returns-in-App
returns-in-App c = λ q. app-firm c.args.heap.now c.args.t.index c.in-App.head _ c.is_sound.ensures (c.view.ensures ∙ ap Some c.in-App.is) (c.is_firm_head.ensures.plain q) (c.is_firm_head.ensures.firm q)
