use Rattle.std.proofs.Common.{◌≡◌, arith}
use Rattle.term_print.proofs.NumberLemmas.{other-symbol}
use Rattle.term_print.proofs.head.is_infix.Goals as goal

pub returns-in_default-3 : goal.returns-in_default-3
returns-in_default-3 c = other-symbol c.args.c.0 (λ (e : c.args.c.0 ≡ 3). absurd (omega (arith, e))) (λ (e : c.args.c.0 ≡ 4). absurd (omega (arith, e))) (λ (e : c.args.c.0 ≡ 5). absurd (omega (arith, e))) (λ (e : c.args.c.0 ≡ 6). absurd (omega (arith, e))) (λ (e : c.args.c.0 ≡ 9). absurd (omega (arith, e))) (λ (e : c.args.c.0 ≡ 13). absurd (omega (arith, e))) (λ (e : c.args.c.0 ≡ 19). absurd (omega (arith, e))) (λ (e : c.args.c.0 ≡ 20). absurd (omega (arith, e))) (λ (e : c.args.c.0 ≡ 21). absurd (omega (arith, e))) (λ (e : c.args.c.0 ≡ 22). absurd (omega (arith, e)))
