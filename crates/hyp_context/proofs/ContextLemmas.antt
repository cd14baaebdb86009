-- Contexts in a heap.
use Rattle.std.proofs.Common.{◌≡◌, ℕ, Bool, true, false, List, [], ◌∷◌, ◌++◌, map, cond, nat_eq, refl, ap, ap₂, ◌∙◌, sym, arith, ◌≤◌}
use Rattle.std.proofs.lemmas.List.{map-append}
use Rattle.ref_terms.specs.search.Assumption.{Assumption}
use Rattle.ref_terms.specs.search.Candidates.{assumptions_for}
use Rattle.level_terms.specs.Graph.{Graph}
use Rattle.hyp_clause.specs.declared.hyp.Hyp.{Hyp}
use Rattle.hyp_clause.specs.Hyps.{assumption_in, AllHypsValid}
use Rattle.hyp_clause.proofs.HypLemmas.{hyps-append, hyps-valid, hyps-read}
use Rattle.hyp_clause.specs.Headed.{AllHeaded, AllScoped}
use Rattle.hyp_clause.proofs.HeadedLemmas.{assumed-headed, assumed-scoped}
use Rattle.hyp_context.specs.Contexts.{hyps_for, AllWithinDepth, EmptyIsContext, AssumedAreContext, AssumedReads, ContextsDeeper, ForPredReads, GrowthKeepsContexts}

pub empty-context : EmptyIsContext
empty-context g depth = record { reads = refl; valid = tt; within = tt; headed = tt }

all-within : (g : Graph) (depth : ℕ) (hs : List Hyp) → AllScoped depth (map (assumption_in g) hs) → AllWithinDepth depth hs
all-within g depth [] w = tt
all-within g depth (h ∷ hs) w = (let e : h.depth ≡ depth = w.0 in omega arith, all-within g depth hs w.1)

pub assumed-context : AssumedAreContext
assumed-context g depth t hs e v = record {
  reads = refl;
  valid = v;
  within = all-within g depth hs (assumed-scoped depth t (map (assumption_in g) hs) (sym e));
  headed = assumed-headed depth t (map (assumption_in g) hs) (sym e);
}

within-append : (depth : ℕ) (hs older : List Hyp) → AllWithinDepth depth hs → AllWithinDepth depth older → AllWithinDepth depth (hs ++ older)
within-append depth [] older v w = w
within-append depth (h ∷ hs) older v w = (v.0, within-append depth hs older v.1 w)

headed-append : (xs ys : List Assumption) → AllHeaded xs → AllHeaded ys → AllHeaded (xs ++ ys)
headed-append [] ys v w = w
headed-append (x ∷ xs) ys v w = (v.0, headed-append xs ys v.1 w)

pub assumed-reads : AssumedReads
assumed-reads g depth hs older new assumptions v w = record {
  reads = map-append (assumption_in g) hs older ∙ ap₂ (λ (xs ys : List Assumption). xs ++ ys) v.reads w.reads;
  valid = hyps-append g hs older v.valid w.valid;
  within = within-append depth hs older v.within w.within;
  headed = headed-append new assumptions v.headed w.headed;
}

within-deeper : (depth deeper : ℕ) (hs : List Hyp) → depth ≤ deeper → AllWithinDepth depth hs → AllWithinDepth deeper hs
within-deeper depth deeper [] l w = tt
within-deeper depth deeper (h ∷ hs) l w = (let e = w.0 in omega arith, within-deeper depth deeper hs l w.1)

pub contexts-deeper : ContextsDeeper
contexts-deeper g depth deeper hs assumptions l v = record { reads = v.reads; valid = v.valid; within = within-deeper depth deeper hs l v.within; headed = v.headed }

-- those of a predicate read as the assumptions of it
pub for-read : (g : Graph) (p : ℕ) (hs : List Hyp) → map (assumption_in g) (hyps_for p hs) ≡ assumptions_for p (map (assumption_in g) hs)
for-read g p [] = refl
for-read g p (h ∷ hs) = go (nat_eq p h.pred.0) (for-read g p hs)
  where
    go : (b : Bool) → map (assumption_in g) (hyps_for p hs) ≡ assumptions_for p (map (assumption_in g) hs) → map (assumption_in g) (cond b (h ∷ hyps_for p hs) (hyps_for p hs)) ≡ cond b (assumption_in g h ∷ assumptions_for p (map (assumption_in g) hs)) (assumptions_for p (map (assumption_in g) hs))
    go true e = ap (λ (xs : List Assumption). assumption_in g h ∷ xs) e
    go false e = e

-- and are valid
pub for-valid : (g : Graph) (p : ℕ) (hs : List Hyp) → AllHypsValid g hs → AllHypsValid g (hyps_for p hs)
for-valid g p [] v = tt
for-valid g p (h ∷ hs) v = go (nat_eq p h.pred.0) (for-valid g p hs v.1)
  where
    go : (b : Bool) → AllHypsValid g (hyps_for p hs) → AllHypsValid g (cond b (h ∷ hyps_for p hs) (hyps_for p hs))
    go true w = (v.0, w)
    go false w = w

for-within : (depth p : ℕ) (hs : List Hyp) → AllWithinDepth depth hs → AllWithinDepth depth (hyps_for p hs)
for-within depth p [] v = tt
for-within depth p (h ∷ hs) v = go (nat_eq p h.pred.0) (for-within depth p hs v.1)
  where
    go : (b : Bool) → AllWithinDepth depth (hyps_for p hs) → AllWithinDepth depth (cond b (h ∷ hyps_for p hs) (hyps_for p hs))
    go true w = (v.0, w)
    go false w = w

for-headed : (p : ℕ) (hs : List Assumption) → AllHeaded hs → AllHeaded (assumptions_for p hs)
for-headed p [] v = tt
for-headed p (h ∷ hs) v = go (nat_eq p h.pred) (for-headed p hs v.1)
  where
    go : (b : Bool) → AllHeaded (assumptions_for p hs) → AllHeaded (cond b (h ∷ assumptions_for p hs) (assumptions_for p hs))
    go true w = (v.0, w)
    go false w = w

pub for_pred-reads : ForPredReads
for_pred-reads g depth p hs assumptions v = record {
  reads = for-read g p hs ∙ ap (assumptions_for p) v.reads;
  valid = for-valid g p hs v.valid;
  within = for-within depth p hs v.within;
  headed = for-headed p assumptions v.headed;
}

pub growth-keeps : GrowthKeepsContexts
growth-keeps g h depth hs assumptions s w v = record {
  reads = hyps-read g h hs s w v.valid ∙ v.reads;
  valid = hyps-valid g h [] [] hs s w v.valid;
  within = v.within;
  headed = v.headed;
}
