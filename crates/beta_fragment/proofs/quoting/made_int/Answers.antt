use Rattle.std.proofs.Common.{◌≡◌, Some, refl, ap, ◌∙◌}
use Rattle.std.proofs.lemmas.Int.{to_z-of_z}
use mir.Syntax.{w64}
use Rattle.level_terms.specs.declared.node.Node.TheVariants.{Int}
use Rattle.level_terms.specs.Graph.{node_at}
use Rattle.ref_terms.specs.terms.Term as term
use Rattle.beta_fragment.proofs.QuoteLemmas.{head-made, at-made}
use Rattle.beta_fragment.proofs.quoting.made_int.Goals as goal

pub returns-clause-head : goal.returns-clause-head
returns-clause-head c =
    let at : node_at c.int.new.self.nodes c.in_ok-r.r.index ≡ Some (Int c.args.n) = at-made c.args.heap.now c.int.new.self _ c.in_ok-r.r c.in_ok-r.ensures.ok.0 c.in_ok-r.ensures.ok.1 ∙ ap (λ z. Some (Int z)) (to_z-of_z w64 c.args.n c.ranges.n) in
    head-made c.int.new.self c.in_ok-r.r (Int c.args.n) (term.Int c.args.n) c.is_sound.ensures at (λ env. refl) (λ e. refl) refl
