-- Assumptions that the key of a call passes over.
use Rattle.std.proofs.Common.{◌≡◌, ℕ, suc, Bool, true, false, cond, not, ◌||◌, nat_eq, List, [], ◌∷◌, map, length, Option, Some, unwrap_or, replicate, refl, sym, ap, ap₂, ◌∙◌, eqb-true}
use Rattle.std.specs.List.{list_any}
use Rattle.std.proofs.lemmas.List.{length-map}
use Rattle.level_terms.specs.Reading.{read}
use Rattle.beta_fragment.specs.Names.{names}
use Rattle.beta_fragment.specs.HeadForm.{all_read}
use Rattle.clause_key.specs.declared.key.Key.{Key}
use Rattle.clause_key.specs.declared.key.Key.TheVariants.{Any}
use Rattle.clause_key.specs.Keys.{agree, fits_every, key_among, inputs_for, fixed_key, assumption_key}
use Rattle.clause_key.specs.Seen.{IsSeenAmong}
use Rattle.clause_key.specs.Laws.{DisagreeingAssumptionClashes}
use Rattle.clause_key.proofs.CallerLemmas.{disagreeing, fixed-same}
use Rattle.hyp_clause.specs.declared.hyp.Hyp.{Hyp}
use Rattle.hyp_clause.specs.Hyps.{assumption_in}
use Rattle.ref_terms.specs.terms.Term.{Con}
use Rattle.ref_terms.specs.unification.Spine.{args_of, head_of}
use Rattle.ref_terms.specs.unification.Unification.{unify}
use Rattle.ref_terms.specs.search.Branch.{Goal}
use Rattle.ref_terms.specs.search.Assumption.{Assumption}
use Rattle.ref_terms.specs.search.Candidates.{from_place}
use Rattle.ref_terms.specs.search.Program.{Program, modes_of}
use Rattle.ref_terms.specs.search.State.{of_assumption}
use Rattle.ref_terms.specs.search.Strip.{is_open}
use Rattle.ref_terms.specs.search.Resolve.{Clashes, try}
use Rattle.search_moves.specs.declared.frame.Frame.{Frame}
use Rattle.search_moves.specs.declared.call.Call.{Call}
use Rattle.search_moves.specs.World.{IsUsable}
use Rattle.search_moves.specs.Reading.{goal_in}
use Rattle.search_moves.specs.Machine.{Machine, branch_of, rest_of, IsFirst}
use Rattle.search_moves.specs.Calling.{IsCall, HasInputs, key_of_call, HypClashes, AllHypsClash}
use Rattle.search_moves.proofs.TryLemmas.{closed-here}

-- an assumption whose key doesn't agree with the call's clashes
module _ (law : DisagreeingAssumptionClashes) (m : Machine) (call : Call) (h : Hyp) (key seen : Key) (is : IsCall m call) (known : key ≡ key_of_call m.world.heap call) (usable : IsUsable m.world.heap call.goal.now.depth h)
    (looked : IsSeenAmong seen call.inputs.now (args_of (read m.world.heap h.head.index names))) (differs : agree key (fixed_key h.depth seen) ≡ false) (modes : Option (List Bool)) (inputs : HasInputs call modes) where
  abbrev goal : Goal
  goal = goal_in m.world.heap call.goal.now

  abbrev assumed : Assumption
  assumed = assumption_in m.world.heap h

  firm : fits_every (fixed_key h.depth seen) ≡ false
  firm = (disagreeing key (fixed_key h.depth seen) differs).clause_firm

  -- the look told the key
  own : key_among call.inputs.now (args_of assumed.head) ≡ seen
  own = looked (ap fits_every (sym (fixed-same h.depth seen firm)) ∙ firm)

  -- the inputs are those of the modes
  count : length (args_of goal.term) ≡ length call.args.now
  count = ap length is.arguments ∙ length-map call.args.now (λ t. read m.world.heap t.index names)

  same : inputs_for modes goal.term ≡ call.inputs.now
  same = ap (λ n. unwrap_or modes (replicate n false)) count ∙ sym inputs

  pub passed-over : HypClashes m call.goal.now modes h
  passed-over place barrier = by (nat_eq (length call.args.now) (length call.inputs.now)) refl
    where
      by : (b : Bool) → nat_eq (length call.args.now) (length call.inputs.now) ≡ b → try unify modes (branch_of m) goal (rest_of m call.goal.now) barrier (of_assumption place assumed) ≡ Clashes
      by false e =
          let any : key ≡ Any = known ∙ ap (λ b. cond b (key_among call.inputs.now (all_read m.world.heap call.args.now)) Any) e in
          absurd (let z : true ≡ false = sym (ap (λ k. agree k (fixed_key h.depth seen)) any) ∙ differs in cc)
      by true e =
          let mine : key_among (inputs_for modes goal.term) (args_of goal.term) ≡ key =
          ap₂ key_among same is.arguments ∙ sym (known ∙ ap (λ b. cond b (key_among call.inputs.now (all_read m.world.heap call.args.now)) Any) e) in
          let theirs : assumption_key (inputs_for modes goal.term) assumed ≡ fixed_key h.depth seen =
          ap (λ ms. fixed_key h.depth (key_among ms (args_of assumed.head))) same ∙ ap (fixed_key h.depth) own in
          law modes h.pred.0 place barrier assumed (branch_of m) goal (rest_of m call.goal.now) usable.head
          (count ∙ eqb-true (length call.args.now) (length call.inputs.now) e ∙ ap length (sym same))
          (ap₂ agree mine theirs ∙ differs)

-- assumptions that clash aren't open at a retry
pub none-assumed : (p : Program) (m : Machine) (f : Frame) (c i : ℕ) (hs : List Hyp) → IsFirst m f → head_of (goal_in m.world.heap f).term ≡ Some (Con c) → AllHypsClash m f (modes_of p c) hs
    → list_any (is_open unify p (branch_of m)) (from_place of_assumption i (map (assumption_in m.world.heap) hs)) ≡ false
none-assumed p m f c i [] first head clash = refl
none-assumed p m f c i (h ∷ hs) first head clash =
    ap₂ (λ a b. a || b) (closed-here p m f c (of_assumption i (assumption_in m.world.heap h)) first head (clash.0 i 0)) (none-assumed p m f c (suc i) hs first head clash.1)

-- a test that is not held
pub not-held : (b : Bool) → not b ≡ true → b ≡ false
not-held true e = absurd (let z : false ≡ true = e in cc)
not-held false e = refl
