use Rattle.std.proofs.Common.{◌≡◌, ℕ, List, [], ◌∷◌, cond, nat_eq, Bool, true, false, refl, sym, ap, ◌∙◌}
use Rattle.level_terms.specs.declared.node.Node.{Node}
use Rattle.level_terms.specs.Graph.{Graph, Assigned}
use Rattle.level_terms.specs.Reading.{node_term, value_term, values_of, read}
use Rattle.ref_terms.specs.terms.Term.{Term, Head, Con, Var, At}
use Rattle.ref_terms.specs.terms.Instance.{inst_all, valued, inst, only}
use Rattle.ref_terms.specs.terms.Apply.{fill}
use Rattle.ref_terms.specs.terms.Built.{IsBuilt}
use Rattle.ref_terms.specs.lemmas.FillLemmas.{built-fill}
use Rattle.ref_terms.specs.lemmas.ReadyFacts.{ready-var}
use Rattle.ref_terms.specs.laws.TermLaws.{AllBuilt, KeepsReady}
use Rattle.ref_terms.specs.lemmas.ComposeLemmas.{fill-fill}
use mathlib.Core.Path.{fun_ext}

only_built : (v : ℕ) (u : Term) → IsBuilt u → AllBuilt (only v u)
only_built v u w (Var x) = go (nat_eq v x)
  where
    go : (b : Bool) → IsBuilt (cond b u (At (Var x)))
    go true = w
    go false = tt
only_built v u w (Con c) = tt
only_built v u w _ = tt

only_keeps : (v : ℕ) (u : Term) → KeepsReady (only v u)
only_keeps v u (Var x) h = absurd (let e : false ≡ true = sym (ready-var x) ∙ h in cc)
only_keeps v u (Con c) h = h
only_keeps v u _ h = h

pub valued_built : (u : ℕ → Term) → ((v : ℕ) → IsBuilt (u v)) → AllBuilt (valued u)
valued_built u w (Var v) = w v
valued_built u w (Con c) = tt
valued_built u w _ = tt

pub valued_keeps : (u : ℕ → Term) → KeepsReady (valued u)
valued_keeps u (Var x) h = absurd (let e : false ≡ true = sym (ready-var x) ∙ h in cc)
valued_keeps u (Con c) h = h
valued_keeps u _ h = h

-- a value is built
pub built-value : (nodes : List Node) (depths : List ℕ) (a : List Assigned) (v : ℕ) → IsBuilt (values_of nodes depths a v)
unfolding values_of
built-value nodes depths [] v = tt
built-value nodes depths (a ∷ older) v = built-fill _ (only_built a.variable _ (built-fill _ (valued_built _ (built-value nodes depths older)) (value_term nodes depths a))) (values_of nodes depths older v)

valued-only : (u : ℕ → Term) (v : ℕ) (x : Term) (h : Head) → fill (only v x) (valued u h) ≡ valued (λ w. inst v x (u w)) h
valued-only u v x (Var w) = refl
valued-only u v x (Con c) = refl
valued-only u v x _ = refl

pub inst-inst_all : (u : ℕ → Term) (v : ℕ) (x : Term) → IsBuilt x → (t : Term) → inst v x (inst_all u t) ≡ inst_all (λ w. inst v x (u w)) t
inst-inst_all u v x w t = fill-fill (only v x) (valued u) (only_built v x w) (only_keeps v x) t ∙ ap (λ r. fill r t) (fun_ext (valued-only u v x))

pub assignment_instantiates : (g : Graph) (a : Assigned) (t : ℕ) (env : ℕ → Term) →
    read (record g { assigned = a ∷ g.assigned }) t env ≡ inst a.variable (inst_all (values_of g.nodes g.depths g.assigned) (value_term g.nodes g.depths a)) (read g t env)
unfolding read values_of
assignment_instantiates g a t env =
    sym (inst-inst_all (values_of g.nodes g.depths g.assigned) a.variable (inst_all (values_of g.nodes g.depths g.assigned) (value_term g.nodes g.depths a)) (built-fill _ (valued_built _ (built-value g.nodes g.depths g.assigned)) (value_term g.nodes g.depths a)) (node_term g.nodes g.depths t env))
