use Rattle.std.proofs.Common.{◌∙◌, sym}
use Rattle.beta_fragment.specs.inside.Cells.{terms_of}
use Rattle.beta_fragment.proofs.ComparedLemmas.{leaves-none, leaves-same, leaves-bodies, leaves-parts}
use Rattle.beta_fragment.proofs.comparing.compared.Goals as goal

pub returns-then-sides : goal.returns-then-sides
returns-then-sides c = leaves-same (terms_of c.args.cells.now) c.args.sides c.args.work.now.items c.if-sides.true

pub returns-in-Equal : goal.returns-in-Equal
returns-in-Equal c = leaves-none (terms_of c.args.cells.now) c.args.sides c.args.work.now.items (c.get-left.ensures.term ∙ c.in-Equal.ensures (terms_of c.args.cells.now) ∙ sym c.get-right.ensures.term)

pub returns-in_ok-push-in-Bodies : goal.returns-in_ok-push-in-Bodies
returns-in_ok-push-in-Bodies c =
    leaves-bodies (terms_of c.args.cells.now) c.args.sides c.in-Bodies.bodies c.args.work.now.items c.push.new.self.items c.get-left.result c.get-right.result
    c.get-left.ensures.term c.get-right.ensures.term c.get-left.ensures.parts c.get-right.ensures.parts c.requires.left c.requires.right (c.in-Bodies.ensures (terms_of c.args.cells.now)) c.in_ok-push-in-Bodies.ensures.items

pub returns-in_ok-push-in-Parts-2 : goal.returns-in_ok-push-in-Parts-2
returns-in_ok-push-in-Parts-2 c =
    leaves-parts (terms_of c.args.cells.now) c.args.sides c.in-Parts.heads c.in-Parts.args c.args.work.now.items c.push-in-Parts.new.self.items c.push-in-Parts-2.new.self.items c.get-left.result c.get-right.result
    c.get-left.ensures.term c.get-right.ensures.term c.get-left.ensures.parts c.get-right.ensures.parts c.requires.left c.requires.right (c.in-Parts.ensures (terms_of c.args.cells.now)) c.in_ok-push-in-Parts.ensures.items c.in_ok-push-in-Parts-2.ensures.items
