use Rattle.std.proofs.Common.{◌∙◌}
use Rattle.mode_check.proofs.Sightings.{names-more, found-more}
use Rattle.mode_check.proofs.declarations.first_redeclared.Goals as goal

pub loop-line-preserved : goal.loop-line-preserved
loop-line-preserved c = record {
  names = names-more c.args.lines.now c.loop-line.line-index c.line-item.result c.loop-line.names.keys c.insert.new.self.keys
      c.loop-line-test.true c.line-item.is c.in_ok-is_new.ensures.keys c.loop-line.invariant.names;
  found = c.loop-line.invariant.found ∙ found-more c.args.lines.now c.loop-line.line-index c.line-item.result c.loop-line.names.keys c.in_ok-is_new.is_new
      c.loop-line.found c.breach_if.result c.earlier-found.result
      c.loop-line-test.true c.line-item.is c.loop-line.invariant.names c.in_ok-is_new.ensures.added c.breach_if.ensures c.earlier-found.ensures;
}
