use Rattle.std.proofs.Common.{ap, ◌∙◌, ◌++◌, take}
use Rattle.lam_io.proofs.Fronts.{front-appended}
use Rattle.lam_io.proofs.sink.MemSinkSink.write.Goals as goal

pub returns-then-is_none-clause-bytes : goal.returns-then-is_none-clause-bytes
returns-then-is_none-clause-bytes c =
    front-appended c.args.self.now.written c.append-in-Some.new.written.items
    c.args.piece.now c.min.result
    (c.append-in-Some.ensures.items
    ∙ ap (λ sink. sink.written ++ take c.min.result c.args.piece.now) c.self.view_is)

pub returns-else-is_none-clause-bytes : goal.returns-else-is_none-clause-bytes
returns-else-is_none-clause-bytes c =
    front-appended c.args.self.now.written c.append-in-Some.new.written.items
    c.args.piece.now c.min.result
    (c.append-in-Some.ensures.items
    ∙ ap (λ sink. sink.written ++ take c.min.result c.args.piece.now) c.self.view_is)
