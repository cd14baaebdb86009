-- Nodes that read alike once they are closed.
use Rattle.std.proofs.Common.{◌≡◌, ℕ, suc, ◌+◌, List, [], ◌∷◌, length, cond, nat_lt, Some, slice_index, sym, ap, ap₂, ◌∙◌, subst, arith, refl}
use Rattle.level_terms.specs.declared.node.Node.TheVariants.{Lam}
use Rattle.level_terms.specs.declared.node.TermId.{TermId}
use Rattle.level_terms.specs.Graph.{Graph, value_in}
use Rattle.level_terms.specs.Sound.{IsSound}
use Rattle.level_terms.specs.Growth.{Grows}
use Rattle.level_terms.specs.Reading.{read}
use Rattle.level_terms.specs.Reached.{IsUnreached}
use Rattle.level_terms.specs.Valid.{IsValid}
use Rattle.level_terms.proofs.GrowthLemmas.{grows-node}
use Rattle.level_terms.proofs.ReadingLemmas.{assignment_instantiates}
use Rattle.level_terms.proofs.ValidLemmas.{growth_keeps_readings, growth_keeps_valid, nodes_valid}
use Rattle.ref_terms.specs.terms.Term.{Term}
use Rattle.ref_terms.specs.terms.Instance.{inst}
use Rattle.ref_terms.specs.terms.Apply.{apply}
use Rattle.ref_terms.specs.unification.Closing.{close_all, names_below}
use Rattle.beta_fragment.specs.Names.{names}
use Rattle.beta_fragment.proofs.EnterLemmas.{body-entered}
use Rattle.level_terms.proofs.MakeLemmas.{and_both, below_true}
use Rattle.level_terms.proofs.ReadLemmas.{valid-below}
use Rattle.pattern_unify.specs.Bound.{IsBound, LeavesOthers}
use Rattle.pattern_unify.specs.inside.Closed.{ClosesAlike, closed_at}
use Rattle.pattern_unify.proofs.ClosedTerms.{assigned-closed, closed-applied}
use Rattle.pattern_unify.proofs.KeepNodes.{node-made}
use Rattle.pattern_unify.proofs.KeptLemmas.{others-after}
use Rattle.pattern_unify.proofs.ReachedLemmas.{unreached-grown, lam-unreached}

-- the node itself
pub alike-same : (g : Graph) (t depth : ℕ) → IsValid g t depth → ClosesAlike g g t depth t depth
alike-same g t depth w = record {
  closed = refl;
  valid = w;
  unreached = λ v u. u;
}

-- one after the other
pub alike-then : (old one new : Graph) (t depth s level r to : ℕ) → ClosesAlike old one t depth s level → ClosesAlike one new s level r to → ClosesAlike old new t depth r to
alike-then old one new t depth s level r to v w = record {
  closed = w.closed ∙ v.closed;
  valid = w.valid;
  unreached = λ k u. w.unreached k (v.unreached k u);
}

-- an abstraction of a body
pub alike-lam : (g h : Graph) (body t : TermId) (level depth : ℕ) → IsSound g → IsSound h → depth ≡ suc level → IsValid g body.index depth → t.index ≡ length g.nodes → h ≡ record g { nodes = Lam level body ∷ g.nodes } →
    ClosesAlike g h body.index depth t.index level
alike-lam g h body t level depth s s' e w at made =
    let grows = grows-node g h (Lam level body) made in
    let below = valid-below g body.index depth w in
    let node = node-made g h (Lam level body) t.index at made in
    let valid : IsValid h body.index (suc level) = subst (IsValid h body.index) e (growth_keeps_valid g h [] [] body.index depth s grows below w) in
    let valid' : IsValid h t.index level = nodes_valid h t.index (Lam level body) level s' node ∙ and_both (nat_lt level (suc level)) _ (below_true level (suc level) (omega arith)) valid in
    record {
      closed =
          sym (closed-applied h h t.index body.index level valid' (body-entered h s' t.index level body node))
          ∙ ap₂ (λ (u : Term) (d : ℕ). close_all (names_below d) u) (growth_keeps_readings g h body.index names s grows below) (sym e);
      valid = valid';
      unreached = λ v u. lam-unreached h t.index level body s' node v (unreached-grown g h s grows body.index below v u);
    }

-- an application to the name of the next level
pub alike-applied : (g h : Graph) (t r depth next : ℕ) → next ≡ depth + 1 → IsValid g t depth → read h r names ≡ apply (read g t names) (names depth) → IsValid h r (depth + 1) → ((v : ℕ) → IsUnreached g v t → IsUnreached h v r) →
    ClosesAlike g h t depth r next
alike-applied g h t r depth next e w reads valid unreached = record {
  closed = ap (closed_at h r) (let q : next ≡ suc depth = omega (arith, e) in q) ∙ closed-applied g h t r depth w reads;
  valid = subst (IsValid h r) (sym e) valid;
  unreached = unreached;
}

-- a variable gets such a node as its value
pub alike-binds : (old g new : Graph) (v depth count body value : ℕ) → IsSound old → IsSound g → Grows old g [] [] → slice_index g.depths v ≡ depth → ClosesAlike old g body count value depth →
    new ≡ record g { assigned = record { variable = v; value = value } ∷ g.assigned } → IsBound old new v (closed_at old body count)
alike-binds old g new v depth count body value s s' grows e w made = λ t env h.
    ap (λ (z : Graph). read z t env) made
    ∙ assignment_instantiates g (record { variable = v; value = value }) t env
    ∙ ap₂ (inst v)
    (assigned-closed g (record { variable = v; value = value }) s' (subst (IsValid g value) (sym e) w.valid) ∙ ap (closed_at g value) e ∙ w.closed)
    (growth_keeps_readings old g t env s grows h)

-- and no other one does
pub leaves-others : (old g new : Graph) (v value : ℕ) → Grows old g [] [] → new ≡ record g { assigned = record { variable = v; value = value } ∷ g.assigned } → LeavesOthers v old new
leaves-others old g new v value grows made =
    others-after old g new v grows (λ w other. ap (λ (z : Graph). value_in z.assigned w) made ∙ ap (λ b. cond b (Some value) (value_in g.assigned w)) other)

pub same-depth : (old g : Graph) (v depth : ℕ) → g.depths ≡ old.depths → depth ≡ slice_index old.depths v → slice_index g.depths v ≡ depth
same-depth old g v depth e q = ap (λ (ds : List ℕ). slice_index ds v) e ∙ sym q
