use Rattle.std.proofs.Common.{◌∙◌, List, ℕ, ◌++◌, codes, get_or, ap}
use Rattle.type_texts.proofs.LineLemmas.{type-at, line-written}
use Rattle.type_texts.proofs.lines.line_of.Goals as goal

pub returns : goal.returns
returns c = λ u reading.
    let nodes = c.args.nodes.now in
    let k = get_or nodes c.args.constant 0 in
    line-written c.args.symbols.now u nodes c.args.variables.now.keys c.args.constant k c.write_type.new.variables.keys c.extend_from_slice.new.self.items c.write_type.new.text.items c.push.new.self.items
    (type-at u nodes c.args.constant c.requires.constant)
    (c.in_ok-extend_from_slice.ensures.items ∙ ap (λ (xs : List ℕ). xs ++ codes " : ") (c.in_ok-text.ensures.items ∙ c.name_in.ensures))
    (c.in_ok-write_type.ensures u reading) c.in_ok-push.ensures.items
