use Rattle.std.proofs.Common.{refl}
use Rattle.level_terms.specs.declared.node.Node.TheVariants.{Str}
use Rattle.ref_terms.specs.terms.Term as term
use Rattle.beta_fragment.proofs.QuoteLemmas.{head-made, at-made}
use Rattle.beta_fragment.proofs.quoting.made_text.Goals as goal

pub returns-clause-head : goal.returns-clause-head
returns-clause-head c =
    head-made c.text.new.self c.in_ok-r.r (Str c.args.s) (term.Str c.args.s.0) c.is_sound.ensures
    (at-made c.args.heap.now c.text.new.self (Str c.args.s) c.in_ok-r.r c.in_ok-r.ensures.ok.0 c.in_ok-r.ensures.ok.1) (λ env. refl) (λ e. refl) refl
