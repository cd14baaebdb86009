-- The term that a node means.
use Rattle.std.specs.Prelude.{ℕ, zero, suc, List, [], ◌∷◌, map, cond, nat_eq, slice_index, Option, Some, None}
use Rattle.level_terms.specs.declared.node.Node.{Node}
use Rattle.level_terms.specs.declared.node.Node.TheVariants.{Con, Int, Str, Level, Lam, App, Var}
use Rattle.level_terms.specs.Graph.{Graph, Assigned, value_in}
use Rattle.level_terms.specs.Layer.{Layer, con, int, str, level, abstraction, application, variable, over}
use Rattle.ref_terms.specs.terms.Term as term
use Rattle.ref_terms.specs.terms.Term.{Term}
use Rattle.ref_terms.specs.terms.Index.{shift}
use Rattle.ref_terms.specs.terms.Eta.{lam}
use Rattle.ref_terms.specs.terms.Instance.{inst, inst_all}
use Rattle.ref_terms.specs.unification.Spine.{apply_all}

-- what the levels stand for below an abstraction that was made at depth d: level d is its own index
abbrev pub enter : ℕ → (ℕ → Term) → ℕ → Term
enter d env i = cond (nat_eq d i) (term.At (term.Bound 0)) (shift (env i))

-- the terms that the levels below a depth stand for, level 0 first
abbrev pub levels : ℕ → (ℕ → Term) → List Term
levels zero env = []
levels (suc d) env = env 0 ∷ levels d (λ i. env (suc i))

-- the term of a layer: a variable is applied to the levels below its depth
abbrev pub layer_term : List ℕ → Layer ((ℕ → Term) → Term) → (ℕ → Term) → Term
layer_term depths (con c) env = term.At (term.Con c)
layer_term depths (int n) env = term.At (term.Int n)
layer_term depths (str s) env = term.At (term.Str s)
layer_term depths (level l) env = env l
layer_term depths (abstraction d b) env = lam (b (enter d env))
layer_term depths (application h ts) env = apply_all (h env) (map (λ t. t env) ts)
layer_term depths (variable v) env = apply_all (term.At (term.Var v)) (levels (slice_index depths v) env)

-- the term of a node, in which each variable stands for itself
abbrev pub node_term : List Node → List ℕ → ℕ → (ℕ → Term) → Term
node_term nodes depths = over (layer_term depths) (λ env. term.At (term.Con 0)) nodes

-- the term of a node, abstracted over k levels from d on
abbrev pub closed_term : List Node → List ℕ → (d k : ℕ) → ℕ → (ℕ → Term) → Term
closed_term nodes depths d zero t env = node_term nodes depths t env
closed_term nodes depths d (suc k) t env = lam (closed_term nodes depths (suc d) k t (enter d env))

-- the term that a variable is assigned: that of its value, abstracted over the levels below its depth
abbrev pub value_term : List Node → List ℕ → Assigned → Term
value_term nodes depths a = closed_term nodes depths 0 (slice_index depths a.variable) a.value (λ i. term.At (term.Bound i))

-- the term that each variable stands for: one assignment after the other, oldest first, changes all by an instance
unfoldable pub values_of : List Node → List ℕ → List Assigned → ℕ → Term
values_of nodes depths [] v = term.At (term.Var v)
values_of nodes depths (a ∷ older) v = inst a.variable (inst_all (values_of nodes depths older) (value_term nodes depths a)) (values_of nodes depths older v)

-- the term that a node means, where each level stands for a term
unfoldable pub read : Graph → ℕ → (ℕ → Term) → Term
read g t env = inst_all (values_of g.nodes g.depths g.assigned) (node_term g.nodes g.depths t env)

-- the term that an assignment gives its variable, in the heap before it
abbrev pub assigned_term : Graph → Assigned → Term
assigned_term g a = inst_all (values_of g.nodes g.depths g.assigned) (value_term g.nodes g.depths a)

-- what a variable reads as: itself, applied to its levels, or its value at the same levels
abbrev pub variable_reads : Graph → (v : ℕ) → Option ℕ → (ℕ → Term) → Term
variable_reads g v None env = apply_all (term.At (term.Var v)) (levels (slice_index g.depths v) env)
variable_reads g v (Some t) env = read g t env

-- what a node reads as, by its parts
abbrev pub node_reads : Graph → Node → (ℕ → Term) → Term
node_reads g (Con c) env = term.At (term.Con c.0)
node_reads g (Int n) env = term.At (term.Int n)
node_reads g (Str s) env = term.At (term.Str s.0)
node_reads g (Level l) env = env l
node_reads g (Lam d b) env = lam (read g b.index (enter d env))
node_reads g (App h ts) env = apply_all (read g h.index env) (map (λ t. read g t.index env) ts)
node_reads g (Var v) env = variable_reads g v.index (value_in g.assigned v.index) env
