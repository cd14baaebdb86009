use Rattle.std.proofs.Common.{refl}
use Rattle.level_terms.specs.declared.node.Node.TheVariants.{Con}
use Rattle.ref_terms.specs.terms.Term as term
use Rattle.beta_fragment.proofs.QuoteLemmas.{head-made, at-made}
use Rattle.beta_fragment.proofs.quoting.made_con.Goals as goal

pub returns-clause-head : goal.returns-clause-head
returns-clause-head c =
    head-made c.con.new.self c.in_ok-r.r (Con c.args.c) (term.Con c.args.c.0) c.is_sound.ensures
    (at-made c.args.heap.now c.con.new.self (Con c.args.c) c.in_ok-r.r c.in_ok-r.ensures.ok.0 c.in_ok-r.ensures.ok.1) (λ env. refl) (λ e. refl) refl
