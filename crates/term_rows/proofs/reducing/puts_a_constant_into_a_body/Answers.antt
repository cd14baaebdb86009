use Rattle.level_terms.proofs.ReadLemmas.{valid-below}
use Rattle.term_rows.proofs.reducing.puts_a_constant_into_a_body.Goals as goal

pub view-requires : goal.view-requires
view-requires g c = valid-below c.contract.new.heap c.in_ok-r.r.index 0 c.in_ok-r.ensures.valid
