-- What the search for the first rule instance answers.
use Rattle.std.specs.Prelude.{◌≡◌, ℕ, List, map, length, Option, Some, None}
use Rattle.level_terms.specs.Graph.{Graph}
use Rattle.level_terms.specs.Reading.{read}
use Rattle.level_terms.specs.Valid.{IsValid}
use Rattle.beta_fragment.specs.Names.{names}
use Rattle.beta_fragment.specs.declared.answer.UnifyStop.{UnifyStop}
use Rattle.beta_fragment.specs.declared.answer.UnifyStop.TheVariants.{Fault, Memory}
use Rattle.ref_terms.specs.unification.Unification.{unify}
use Rattle.ref_terms.specs.search.Fault.{Judged, Good, Bad}
use Rattle.ref_terms.specs.search.Branch.{Branch}
use Rattle.ref_terms.specs.search.Program.{Rule}
use Rattle.ref_terms.specs.search.RuleInstance as reference
use Rattle.ref_terms.specs.search.FirstRule.{first_firing}
use Rattle.hyp_clause.specs.Hyps.{assumption_in, AllHypsValid}
use Rattle.hyp_context.specs.Contexts.{AllWithinDepth}
use Rattle.sequent_rules.specs.declared.firing.Firing.{Firing}

-- a firing as the reference's
abbrev pub firing_in : Graph → Firing → reference.Firing
firing_in g f = record {
  fired = record { rule = f.rule; constraints = f.constraints.items };
  removed = f.removed.items;
  names = f.names;
  assumptions = map (assumption_in g) f.context;
  body = read g f.body.index names;
  next_var = length g.depths;
}

-- the body and its assumptions are valid at its names
pub record IsFiringAt (g : Graph) (f : Firing) : Type 0 where
  pub body : IsValid g f.body.index f.names
  pub context : AllHypsValid g f.context
  pub within : AllWithinDepth f.names f.context

-- the answer is this one of the reference
abbrev pub Answers : Graph → Option Firing → Option (Judged reference.Firing) → Type 0
Answers g None o = o ≡ None
Answers g (Some f) o = o ≡ Some (Good (firing_in g f))

-- the fault is this one of the reference; want of memory may come at any time
abbrev pub StopsBy : UnifyStop → Option (Judged reference.Firing) → Type 0
StopsBy (Fault e) o = o ≡ Some (Bad e)
StopsBy Memory o = Unit {0}

-- the first instance or fault of the full scan, over all rules and tuples in their order
abbrev pub first_of : List Rule → Branch → Option (Judged reference.Firing)
first_of rules b = first_firing unify b 0 rules

-- without a firing the heap is as it was; else the firing's nodes are valid
abbrev pub Leaves : (old new : Graph) → Option Firing → Type 0
Leaves old new None = new ≡ old
Leaves old new (Some f) = IsFiringAt new f

-- what was there reads as it did
abbrev pub ReadsAsBefore : (old new : Graph) → Type 0
ReadsAsBefore old new = (t depth : ℕ) → IsValid old t depth → read new t names ≡ read old t names
