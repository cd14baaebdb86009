use Rattle.std.proofs.Common.{arith, length-append}
use Rattle.elpi_cli.proofs.Indices.{below-more}
use Rattle.elpi_cli.proofs.words.Reading.take_option_or_file.Goals as goal

pub returns-clause-below : goal.returns-clause-below
returns-clause-below c = λ count less below. record {
  query = below.query;
  files = rw c.in_ok-push.ensures.last (below-more count c.args.self.now.files c.args.index below.files less);
  few = rw (c.in_ok-push.ensures.last, length-append) (omega (arith, c.if-len-ge-MAX_FILES.false, c.len.ensures));
}
