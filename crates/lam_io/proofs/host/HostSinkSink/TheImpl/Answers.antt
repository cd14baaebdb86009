use Rattle.lam_io.proofs.Untold.{writes-untold}
use Rattle.lam_io.proofs.host.HostSinkSink.TheImpl.Goals as goal

pub write-tells : goal.write-tells
write-tells g c = record {
  bytes = writes-untold c.args.piece.now c.result;
  cause = c.ensures.cause;
  stopped = tt;
}
