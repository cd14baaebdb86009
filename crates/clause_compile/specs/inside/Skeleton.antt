-- What skeletons mean.
use Rattle.std.specs.Prelude.{◌≡◌, ℕ, suc, ◌<◌, ◌&&◌, ◌||◌, true, false, List, [], ◌∷◌, map, length, cond, nat_eq, nat_lt, get_or}
use Rattle.std.specs.List.{list_all, list_any}
use Rattle.ref_terms.specs.terms.Term as term
use Rattle.ref_terms.specs.terms.Eta.{lam}
use Rattle.ref_terms.specs.unification.Spine.{apply_all}
use Rattle.level_terms.specs.declared.node.Node.{Node}
use Rattle.level_terms.specs.declared.node.TermId.{TermId}
use Rattle.level_terms.specs.Reading.{node_term, enter}
use Rattle.level_terms.specs.Valid.{valid}
use Rattle.level_terms.specs.Values.{Value}
use Rattle.clause_compile.specs.declared.skeleton.Part.{Part}
use Rattle.clause_compile.specs.declared.skeleton.Part.TheVariants.{Shared, Variable, Made}
use Rattle.clause_compile.specs.declared.skeleton.Step.{Step}
use Rattle.clause_compile.specs.declared.skeleton.Step.TheVariants.{Level, Lam, App}

-- what stands where there is no node
abbrev pub nothing : Value
nothing = record { term = λ env. term.At (term.Con 0); holds = λ e. false; reached = λ w. false }

-- a variable of the clause, which stands for itself
abbrev pub own_variable : ℕ → Value
own_variable v = record { term = λ env. term.At (term.Var v); holds = λ e. true; reached = λ w. nat_eq w v }

-- what a part means, by what the nodes that are shared and those that are made mean
abbrev pub part_value : (shared made : ℕ → Value) → Part → Value
part_value shared made (Shared t) = shared t.index
part_value shared made (Variable v) = own_variable v
part_value shared made (Made i) = made i

-- the abstraction of a body over a level
abbrev pub lam_value : ℕ → Value → Value
lam_value l b = record { term = λ env. lam (b.term (enter l env)); holds = λ e. nat_lt l (suc e) && b.holds (suc l); reached = b.reached }

-- a head with its arguments
abbrev pub app_value : Value → List Value → Value
app_value h xs = record { term = λ env. apply_all (h.term env) (map (λ (x : Value). x.term env) xs); holds = λ e. h.holds e && list_all (λ (x : Value). x.holds e) xs; reached = λ w. h.reached w || list_any (λ (x : Value). x.reached w) xs }

-- what a step makes, by what its parts mean
abbrev pub step_value : (Part → Value) → Step → Value
step_value f (Level l) = record { term = λ env. env l; holds = λ e. nat_lt l e; reached = λ w. false }
step_value f (Lam l b) = lam_value l (f b)
step_value f (App h ts) = app_value (f h) (map f ts)

-- what the step with a number makes; steps are given last one first, and the number is how many come before
abbrev pub made_value : (shared : ℕ → Value) → List Step → ℕ → Value
made_value shared [] i = nothing
made_value shared (s ∷ before) i = cond (nat_eq (length before) i) (step_value (part_value shared (made_value shared before)) s) (made_value shared before i)

-- what the nodes that are shared mean: they have no variables
abbrev pub shared_value : List Node → ℕ → Value
shared_value nodes t = record { term = node_term nodes [] t; holds = valid nodes [] t; reached = λ w. false }

-- a part names one of so many variables, an older node that is valid everywhere, or a step
abbrev pub IsPart : (variables : ℕ) → (nodes : List Node) → (made : ℕ) → Part → Type 0
IsPart variables nodes made (Shared t) = valid nodes [] t.index 0 ≡ true
IsPart variables nodes made (Variable v) = v < variables
IsPart variables nodes made (Made i) = i < made

-- so each of these parts
abbrev pub AllParts : (variables : ℕ) → (nodes : List Node) → (made : ℕ) → List Part → Type 0
AllParts variables nodes made [] = Unit {0}
AllParts variables nodes made (p ∷ ps) = IsPart variables nodes made p × AllParts variables nodes made ps

-- so the parts of a step; an application has arguments
abbrev pub IsStep : (variables : ℕ) → (nodes : List Node) → (made : ℕ) → Step → Type 0
IsStep variables nodes made (Level l) = Unit {0}
IsStep variables nodes made (Lam l b) = IsPart variables nodes made b
IsStep variables nodes made (App h ts) = IsPart variables nodes made h × AllParts variables nodes made ts × (0 < length ts)

-- each step names what was made before it
abbrev pub AllSteps : (variables : ℕ) → (nodes : List Node) → List Step → Type 0
AllSteps variables nodes [] = Unit {0}
AllSteps variables nodes (s ∷ before) = IsStep variables nodes (length before) s × AllSteps variables nodes before

-- the node of a part, where the variables and the steps have these nodes
abbrev pub node_of : (variables made : List TermId) → Part → TermId
node_of variables made (Shared t) = t
node_of variables made (Variable v) = get_or variables v (record { index = 0 })
node_of variables made (Made i) = get_or made i (record { index = 0 })
