use Rattle.ref_terms.proofs.search.PartnerLemmas.{pairs-share}
use Rattle.ref_terms.proofs.laws.law_partners.Goals as goal

pub returns : goal.returns
returns c = pairs-share
