use Rattle.std.proofs.Common.{◌∙◌, ap, sym, Some, rules}
use Rattle.level_terms.specs.declared.node.Node.TheVariants.{Con, Str, Level}
use Rattle.level_terms.proofs.NodeLemmas.{nodes_read}
use Rattle.ref_terms.specs.terms.Term as term
use Rattle.beta_fragment.specs.Names.{names}
use Rattle.std.proofs.lemmas.Int.{to_z-of_z}
use mir.Val.{SFits}
use mir.Syntax.{w64}
use Rattle.beta_fragment.proofs.EnterLemmas.{names-places}
use Rattle.beta_fragment.proofs.equality.head_at.Goals as goal

pub returns-in-Con : goal.returns-in-Con
returns-in-Con c = nodes_read c.args.heap.now c.args.t.index (Con c.in-Con.c) names c.is_sound.ensures names-places (c.view.ensures ∙ ap Some c.in-Con.is)

pub returns-in-Int : goal.returns-in-Int
returns-in-Int c =
    let fits : SFits w64 c.in-Int.n = search rules in
    nodes_read c.args.heap.now c.args.t.index _ names c.is_sound.ensures names-places (c.view.ensures ∙ ap Some c.in-Int.is) ∙ sym (ap (λ z. term.At (term.Int z)) (to_z-of_z w64 c.in-Int.n fits))

pub returns-in-Str : goal.returns-in-Str
returns-in-Str c = nodes_read c.args.heap.now c.args.t.index (Str c.in-Str.s) names c.is_sound.ensures names-places (c.view.ensures ∙ ap Some c.in-Str.is)

pub returns-in-Level : goal.returns-in-Level
returns-in-Level c = nodes_read c.args.heap.now c.args.t.index (Level c.in-Level.l) names c.is_sound.ensures names-places (c.view.ensures ∙ ap Some c.in-Level.is)
