use Rattle.ref_terms.proofs.search.UsedVars.{used-renamed}
use Rattle.ref_terms.proofs.laws.law_used_variables.Goals as goal

pub returns : goal.returns
returns c = used-renamed
