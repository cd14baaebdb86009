-- Rules that fire: the parts of the move.
use Rattle.std.proofs.Common.{◌≡◌, ℕ, Bool, true, Option, Some, None, IfSome, IfOk, Result, Ok, Err, List, [], ◌∷◌, ◌++◌, length, refl, sym, ap, ◌∙◌, subst, arith}
use Rattle.level_terms.specs.Sound.{IsSound}
use Rattle.ref_terms.specs.search.Branch.{Branch, Constraint}
use Rattle.ref_terms.specs.search.RuleInstance.{is_fired}
use Rattle.ref_terms.specs.search.Program.{Program}
use Rattle.ref_terms.specs.search.Used.{Every}
use Rattle.suspend.specs.Store.{stored}
use Rattle.suspend.proofs.CallerLemmas.{numbers-ascend}
use Rattle.sequent_rules.specs.declared.firing.Firing.{Firing}
use Rattle.sequent_rules.specs.Branches.{IsSeenAs}
use Rattle.sequent_rules.specs.Instances.{Answers, Leaves, ReadsAsBefore, first_of, firing_in}
use Rattle.sequent_rules.proofs.KeptLemmas.{Keeps}
use Rattle.hyp_clause.proofs.HypLemmas.{hyps-valid}
use Rattle.search_moves.specs.World.{World, IsFine, code_nodes}
use Rattle.search_moves.specs.Moves.{Growing}
use Rattle.search_moves.specs.Firing.{has_number, without_number, without_numbers, AreRemovable, CanFire}
use Rattle.search_moves.specs.Machine.{Machine, branch_of, LeavesAlternatives}
use Rattle.search_moves.proofs.FrameLemmas.{valid-grown}
use Rattle.search_moves.proofs.FoundLemmas.{firing-found}
use Rattle.search_moves.proofs.FiringLemmas.{all-of-store, all-apart, found-can-fire, without-none, without-last, last-removable, others-removable}

-- what a call that gives no older variable a value keeps
pub grown-keeps : (w w' : World) → IsSound w.heap → Growing w.heap w'.heap → ReadsAsBefore w.heap w'.heap → Keeps w.heap w'.heap
grown-keeps w w' sound g reads = record {
  reads = reads;
  valid = λ t d v. valid-grown w.heap w'.heap g.before g.after t d sound g.grows v;
  hyps = λ hs v. hyps-valid w.heap w'.heap g.before g.after hs sound g.grows v;
}

-- the branch is what the search for rule instances sees
pub seen : (m : Machine) → IsSeenAs m.world.heap m.world.log (branch_of m)
seen m = record { store = refl; fired = refl; next_var = refl }

-- a firing that was found can be made
pub answered-can-fire : (p : Program) (m m' : Machine) (o : Option Firing) → IsFine m.world m.first → branch_of m' ≡ record (branch_of m) { next_var = length m'.world.heap.depths }
    → Leaves m.world.heap m'.world.heap o → Answers m'.world.heap o (first_of p.rules (branch_of m)) → IfSome o (CanFire m')
answered-can-fire p m m' None fine same valid is = tt
answered-can-fire p m m' (Some f) fine same valid is =
    let es = stored m.world.log in
    let found = firing-found (branch_of m) 0 p.rules (firing_in m'.world.heap f) (all-of-store m.world.heap es fine.constraints) (all-apart m.world.heap es (numbers-ascend m.world.log)) is in
    found-can-fire m' f (record {
      not_yet = ap (λ (b : Branch). is_fired_in b) same ∙ found.not_yet;
      there = subst (λ (b : Branch). Every (λ n. has_number b.store n ≡ true) f.removed.items) (sym same) found.there;
      differ = found.differ;
      headed = found.headed;
    }) valid
  where
    is_fired_in : Branch → Bool
    is_fired_in b = is_fired (firing_in m'.world.heap f).fired b.fired

pub no-items : (ns : List ℕ) → length ns ≡ 0 → ns ≡ []
no-items [] e = refl
no-items (n ∷ ns) e = absurd (omega (arith, e))

-- constraints are taken out, the last one first
pub record IsRemoving (old : Machine) (ids : List ℕ) (new : Machine) (left : List ℕ) : Type 0 where
  pub removable : AreRemovable (branch_of new).store left
  pub store : without_numbers left (branch_of new).store ≡ without_numbers ids (branch_of old).store
  pub rest : branch_of new ≡ record (branch_of old) { store = (branch_of new).store }
  pub heap : new.world.heap ≡ old.world.heap
  pub saved : new.saved ≡ old.saved
  pub phase : new.phase ≡ old.phase
  pub code : code_nodes new.world ≡ code_nodes old.world
  pub alternatives : LeavesAlternatives old new

pub last-there : (old m : Machine) (ids left fewer : List ℕ) (n : ℕ) → IsRemoving old ids m left → left ≡ fewer ++ n ∷ [] → has_number (branch_of m).store n ≡ true
last-there old m ids left fewer n h e = last-removable (branch_of m).store fewer n (subst (AreRemovable (branch_of m).store) e h.removable)

pub removing-goes : (old m new : Machine) (ids left fewer : List ℕ) (n : ℕ) → IsRemoving old ids m left → left ≡ fewer ++ n ∷ []
    → branch_of new ≡ record (branch_of m) { store = without_number n (branch_of m).store } → new.world.heap ≡ m.world.heap → new.saved ≡ m.saved → new.phase ≡ m.phase → code_nodes new.world ≡ code_nodes m.world → LeavesAlternatives m new
    → IsRemoving old ids new fewer
removing-goes old m new ids left fewer n h e out heap saved phase code alternatives =
    let there : without_number n (branch_of m).store ≡ (branch_of new).store = sym (ap (λ (b : Branch). b.store) out) in
    record {
      removable = subst (λ (cs : List Constraint). AreRemovable cs fewer) there (others-removable (branch_of m).store fewer n (subst (AreRemovable (branch_of m).store) e h.removable));
      store = ap (without_numbers fewer) (sym there) ∙ sym (without-last fewer n (branch_of m).store) ∙ ap (λ ns. without_numbers ns (branch_of m).store) (sym e) ∙ h.store;
      rest = out ∙ ap (λ (b : Branch). record b { store = without_number n (branch_of m).store }) h.rest ∙ ap (λ (cs : List Constraint). record (branch_of old) { store = cs }) there;
      heap = heap ∙ h.heap;
      saved = saved ∙ h.saved;
      phase = phase ∙ h.phase;
      code = code ∙ h.code;
      alternatives = λ p. alternatives p ∙ h.alternatives p;
    }

pub removing-ends : (old m : Machine) (ids left : List ℕ) → IsRemoving old ids m left → left ≡ [] → branch_of m ≡ record (branch_of old) { store = without_numbers ids (branch_of old).store }
removing-ends old m ids left h e =
    h.rest ∙ ap (λ (cs : List Constraint). record (branch_of old) { store = cs }) (sym (without-none (branch_of m).store) ∙ ap (λ ns. without_numbers ns (branch_of m).store) (sym e) ∙ h.store)

-- what holds of a value in two ways
pub both-ok : {T E : Type 0} {P Q R : T → Type 0} (r : Result T E) → ((t : T) → P t → Q t → R t) → IfOk r P → IfOk r Q → IfOk r R
both-ok (Ok t) f p q = f t p q
both-ok (Err e) f p q = tt
