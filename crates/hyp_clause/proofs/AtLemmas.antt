-- Hypothetical clauses at the names of a call.
use Rattle.std.proofs.Common.{◌≡◌, ℕ, ◌+◌, List, [], ◌++◌, map, length, replicate, sym, ap, ◌∙◌, length-append}
use Rattle.ref_terms.specs.unification.Spine.{args_of}
use Rattle.ref_terms.specs.search.Assumption.{Assumption}
use Rattle.ref_terms.specs.search.Instance.{parameter_instance}
use Rattle.level_terms.specs.declared.node.TermId.{TermId}
use Rattle.level_terms.specs.Graph.{Graph}
use Rattle.level_terms.specs.Growth.{Grows}
use Rattle.level_terms.specs.Sound.{IsSound}
use Rattle.beta_fragment.specs.HeadForm.{all_read, AllValidAt}
use Rattle.beta_fragment.proofs.HeadLemmas.{valid-grown_all, read-grown_all}
use Rattle.hyp_clause.specs.declared.hyp.Hyp.{Hyp}
use Rattle.hyp_clause.specs.Headed.{IsHeaded}
use Rattle.hyp_clause.specs.Hyps.{assumption_in, IsHypValid}
use Rattle.hyp_clause.specs.Instances.{IsAssumptionAt}
use Rattle.hyp_clause.proofs.HeadedLemmas.{arguments-headed}
use Rattle.hyp_clause.proofs.HypLemmas.{hyp-reads}
use Rattle.hyp_clause.proofs.InstanceLemmas.{length-replicate}

-- the arguments were made first, and then the conditions
pub made-at : (old mid new : Graph) (x : Hyp) (depth : ℕ) (args body : List TermId) → IsSound old → IsSound mid → Grows old mid [] [] → Grows mid new [] [] → IsHypValid old x → IsHeaded (assumption_in old x) →
    mid.depths ≡ old.depths ++ replicate x.pis depth → new.depths ≡ mid.depths →
    all_read mid args ≡ map (parameter_instance (assumption_in old x) depth (length old.depths)) (args_of (assumption_in old x).head) → AllValidAt mid args depth →
    all_read new body ≡ map (parameter_instance (assumption_in mid x) depth (length old.depths)) (assumption_in mid x).conditions → AllValidAt new body depth →
    IsAssumptionAt (assumption_in old x) depth old new args body
made-at old mid new x depth args body s s' w w' v h d d' ra va rb vb = record {
  args = read-grown_all mid new depth s' w' args va ∙ ra ∙ sym (arguments-headed (assumption_in old x) depth (length old.depths) h);
  body = rb ∙ ap (λ (a : Assumption). map (parameter_instance a depth (length old.depths)) a.conditions) (hyp-reads old mid x s w v);
  next_var = ap length d' ∙ ap length d ∙ length-append old.depths (replicate x.pis depth) ∙ ap (λ k. length old.depths + k) (length-replicate x.pis depth);
  args_valid = valid-grown_all mid new depth s' w' args va;
  body_valid = vb;
}
