use Rattle.std.proofs.Common.{refl, ◌≡◌, [], true, false}
use Rattle.level_terms.proofs.GrowthLemmas.{grows-refl}
use Rattle.term_print.proofs.chain.stays.Goals as goal

pub returns-in_default : goal.returns-in_default
returns-in_default c = record {
  node = λ w. absurd (let k : false ≡ true = w in cc);
  stays = λ w. absurd (let k : false ≡ true = w in cc);
  variables = refl;
  grows = grows-refl c.args.heap.now [];
}
