-- What a tuple comes to, stage by stage.
use Rattle.std.specs.Prelude.{ℕ, ◌≤◌, List, [], ◌∷◌, length, Option, Some}
use Rattle.level_terms.specs.Graph.{Graph}
use Rattle.ref_terms.specs.unification.Problem.{Binding}
use Rattle.ref_terms.specs.unification.Unification.{unify}
use Rattle.ref_terms.specs.search.Fault.{Judged}
use Rattle.ref_terms.specs.search.Program.{Rule}
use Rattle.ref_terms.specs.search.Branch.{Constraint}
use Rattle.ref_terms.specs.search.Joint.{joint}
use Rattle.ref_terms.specs.search.RuleInstance.{Firing, matched_at, tested, matched_value}
use Rattle.eigen_align.specs.declared.sequent.JointNames.{JointNames}
use Rattle.eigen_align.specs.Sequents.{joint_read}
use Rattle.sequent_rules.specs.declared.scan.Scan.{Scan}
use Rattle.sequent_rules.specs.declared.equations.Tuple.{Tuple}
use Rattle.sequent_rules.specs.inside.Tuples.{tuple_in}

-- the first constraint has no more names than there are joint ones
abbrev pub IsDeepEnough : ℕ → List Constraint → Type 0
IsDeepEnough depth [] = Unit {0}
IsDeepEnough depth (c ∷ cs) = c.names ≤ depth

-- alignment, and what follows
abbrev pub aligned_in : {X : Type 0} → Graph → Scan X → Rule → List ℕ → Option (Judged Firing)
aligned_in g scan r ns = matched_at unify (length g.depths) r (record { rule = scan.rule; constraints = ns }) (tuple_in g scan.store.now ns) (joint r.pairs (tuple_in g scan.store.now ns))

-- matching at these joint names, and what follows
abbrev pub matched_in : {X : Type 0} → Graph → Scan X → Rule → List ℕ → JointNames → Option (Judged Firing)
matched_in g scan r ns j = matched_at unify (length g.depths) r (record { rule = scan.rule; constraints = ns }) (tuple_in g scan.store.now ns) (Some (joint_read j))

-- tests, and what follows, where matching gave these bindings to variables from `next` on
abbrev pub fired_in : Graph → Tuple → (rule : ℕ) → List Binding → (next : ℕ) → Rule → Option (Judged Firing)
fired_in g t rule bs next r = tested r t.joint.now.depth (length g.depths) (record { rule = rule; constraints = t.ids.now }) (tuple_in g t.store.now t.ids.now) (matched_value t.joint.now.depth next bs)
