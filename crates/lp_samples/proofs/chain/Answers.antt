use Rattle.lp_samples.specs.Chain.{chain_text}
use Rattle.lp_samples.proofs.chain.Goals as goal

pub returns : goal.returns
unfolding chain_text
returns c = rw (c.in_ok-push_slice.ensures.ok, c.in_ok-text.ensures, c.as_bytes.ensures.value, c.elaborator.ensures, c.as_bytes-2.ensures.value, c.in_ok-clause.ensures.ok)
