use Rattle.std.proofs.Common.{◌≡◌, ◌<◌, length, nat_eq, true, false, get_or, arith, eq-eqb, ne_eqb}
use Rattle.elpi_cli.proofs.Lines.{line-behind}
use Rattle.elpi_cli.proofs.positions.line_at.Goals.{then-byte-eq10, else-byte-eq10}
use Rattle.elpi_cli.proofs.positions.line_at.Goals as goal

pub loop-byte-preserved : goal.loop-byte-preserved
loop-byte-preserved c =
    let items = c.bytes_before-byte-items.result.now in
    let within : c.loop-byte.byte-index < length items = omega (arith, c.loop-byte-test.true) in
    let step = line-behind items c.loop-byte.byte-index within in
    elim c.if-byte-eq10.branch [
      | then-byte-eq10 w ↦
          let feed : nat_eq (get_or items c.loop-byte.byte-index 0) 10 ≡ true = eq-eqb _ _ w.if-byte-eq10.true in
          let more = rw feed at step in
          (omega (arith, w.line-is, more, c.loop-byte.invariant.0), omega (arith, w.line-is, c.loop-byte.invariant.1))
      | else-byte-eq10 w ↦
          let other : nat_eq (get_or items c.loop-byte.byte-index 0) 10 ≡ false = ne_eqb _ _ w.if-byte-eq10.false in
          let same = rw other at step in
          (omega (arith, w.line-is, same, c.loop-byte.invariant.0), omega (arith, w.line-is, c.loop-byte.invariant.1))
    ]
