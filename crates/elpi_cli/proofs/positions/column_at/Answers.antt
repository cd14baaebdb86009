use Rattle.std.proofs.Common.{◌≡◌, ◌<◌, length, nat_eq, true, false, get_or, arith, eq-eqb, ne_eqb}
use Rattle.elpi_cli.specs.Positions.{continues_character}
use Rattle.elpi_cli.proofs.Lines.{column-behind, begins-low, begins-high, goes-on}
use Rattle.elpi_cli.proofs.positions.column_at.Goals.{then-byte-eq10, else-byte-eq10+then-byte-lt128, then-byte-lt128-via-then-byte-lt128, then-byte-lt128-via-else-byte-lt128+then-byte-ge192, else-byte-eq10+else-byte-lt128+else-byte-ge192}
use Rattle.elpi_cli.proofs.positions.column_at.Goals as goal

pub loop-byte-preserved : goal.loop-byte-preserved
loop-byte-preserved c =
    let items = c.bytes_before-byte-items.result.now in
    let within : c.loop-byte.byte-index < length items = omega (arith, c.loop-byte-test.true) in
    let b = get_or items c.loop-byte.byte-index 0 in
    let step = column-behind items c.loop-byte.byte-index within in
    elim c.if-byte-eq10.branch [
      | then-byte-eq10 w ↦
          let feed : nat_eq b 10 ≡ true = eq-eqb _ _ w.if-byte-eq10.true in
          let first = rw feed at step in
          (omega (arith, w.column-is, first), omega (arith, w.column-is))
      | else-byte-eq10+then-byte-lt128 w ↦
          let other : nat_eq b 10 ≡ false = ne_eqb _ _ w.if-byte-eq10.false in
          let begins : continues_character b ≡ false = elim w.then-byte-lt128.branch [
            | then-byte-lt128-via-then-byte-lt128 v ↦ begins-low b v.if-byte-lt128.true
            | then-byte-lt128-via-else-byte-lt128+then-byte-ge192 v ↦ begins-high b v.if-byte-ge192.true
          ] in
          let more = rw (other, begins) at step in
          (omega (arith, w.column-is, more, c.loop-byte.invariant.0), omega (arith, w.column-is, c.loop-byte.invariant.1))
      | else-byte-eq10+else-byte-lt128+else-byte-ge192 w ↦
          let other : nat_eq b 10 ≡ false = ne_eqb _ _ w.if-byte-eq10.false in
          let inside : continues_character b ≡ true = goes-on b w.if-byte-lt128.false w.if-byte-ge192.false in
          let same = rw (other, inside) at step in
          (omega (arith, w.column-is, same, c.loop-byte.invariant.0), omega (arith, w.column-is, c.loop-byte.invariant.1))
    ]
