use Rattle.std.proofs.Common.{◌∙◌, ap, Some}
use Rattle.level_terms.proofs.NodeLemmas.{nodes_read}
use Rattle.beta_fragment.specs.Names.{names}
use Rattle.beta_fragment.proofs.EnterLemmas.{names-places}
use Rattle.beta_fragment.proofs.rigid_form.rigid_leaf.Goals as goal

pub returns-in-Con : goal.returns-in-Con
returns-in-Con c = nodes_read c.args.heap.now c.args.t.index _ names c.is_sound.ensures names-places (c.view.ensures ∙ ap Some c.in-Con.is)

pub returns-in-Str : goal.returns-in-Str
returns-in-Str c = nodes_read c.args.heap.now c.args.t.index _ names c.is_sound.ensures names-places (c.view.ensures ∙ ap Some c.in-Str.is)

pub returns-in-Level : goal.returns-in-Level
returns-in-Level c = nodes_read c.args.heap.now c.args.t.index _ names c.is_sound.ensures names-places (c.view.ensures ∙ ap Some c.in-Level.is)
