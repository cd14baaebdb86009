use Rattle.std.proofs.Common.{◌∙◌, ℕ, [], ◌∷◌, Vec, Global, map, ap, arith}
use Rattle.std.proofs.lemmas.List.{map-append}
use Rattle.type_texts.proofs.LineLemmas.{lines-more, lines-all}
use Rattle.type_texts.proofs.lines.lines_of.Goals as goal

pub loop-constant-preserved : goal.loop-constant-preserved
loop-constant-preserved c = λ u reading.
    let f = λ (line : Vec ℕ Global). line.items in
    let lines = c.loop-constant.lines.items in
    lines-more c.args.symbols.now (map u c.args.nodes.now) c.args.constants.now c.loop-constant.constant-index c.loop-constant.variables.keys c.line_of.new.variables.keys
    (map f lines) (map f c.push.new.self.items) c.in_ok-line.line.items c.loop-constant-test.true (c.loop-constant.invariant u reading) (c.in_ok-line.ensures u reading)
    (ap (map f) c.in_ok-push.ensures.items ∙ map-append f lines (c.in_ok-line.line ∷ []))

pub returns : goal.returns
returns c = λ u reading.
    let f = λ (line : Vec ℕ Global). line.items in
    lines-all c.args.symbols.now (map u c.args.nodes.now) c.args.constants.now c.loop-constant.constant-index c.loop-constant.variables.keys (map f c.loop-constant.lines.items)
    (omega (arith, c.loop-constant-test.false)) (c.loop-constant.invariant u reading)
