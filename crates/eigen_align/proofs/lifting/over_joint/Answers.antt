use Rattle.std.proofs.Common.{◌≡◌, ◌≢◌, ◌∙◌, ℕ, Bool, true, false, List, [], length, sym, subst, ap, MatchBool}
use Rattle.level_terms.proofs.GrowthLemmas.{grows-refl}
use Rattle.ref_terms.specs.unification.Closing.{names_below}
use Rattle.eigen_align.proofs.LiftLemmas.{lifted}
use Rattle.eigen_align.proofs.AlignedLemmas.{kept-lifted}
use Rattle.eigen_align.proofs.lifting.over_joint.Goals as goal

-- whether each name is its own, as the test says
yes-own : (ns ms : List ℕ) (b : Bool) → ms ≡ ns → MatchBool b (ms ≡ names_below (length ms)) (ms ≢ names_below (length ms)) → b ≡ true → ns ≡ names_below (length ns)
yes-own ns ms true e w q = subst (λ (xs : List ℕ). xs ≡ names_below (length xs)) e w
yes-own ns ms false e w q = absurd (let k : false ≡ true = q in cc)

not-own : (ns ms : List ℕ) (b : Bool) → ms ≡ ns → MatchBool b (ms ≡ names_below (length ms)) (ms ≢ names_below (length ms)) → b ≡ false → ns ≡ names_below (length ns) → ⊥
not-own ns ms false e w q = subst (λ (xs : List ℕ). xs ≢ names_below (length xs)) e w
not-own ns ms true e w q = absurd (let k : true ≡ false = q in cc)

pub returns-then-same-clause-lifted : goal.returns-then-same-clause-lifted
returns-then-same-clause-lifted c =
    kept-lifted c.args.heap.now c.args.t c.args.own c.args.map.now c.args.depth c.is_sound.ensures c.requires.valid c.requires.count
    (yes-own c.args.map.now c.as_slice.result.now c.are_own-same.result c.as_slice.ensures c.are_own-same.ensures c.if-same.true) c.requires.below

pub returns-clause-lifted : goal.returns-clause-lifted
returns-clause-lifted c = record {
  reads = c.in_ok-r.ensures.reads ∙ lifted c.args.heap.now c.args.t.index c.args.map.now c.is_sound.ensures;
  valid = c.in_ok-r.ensures.valid;
  same = λ e. absurd (not-own c.args.map.now c.as_slice.result.now c.are_own-same.result c.as_slice.ensures c.are_own-same.ensures c.if-same.false e);
}

pub returns-clause-unchanged : goal.returns-clause-unchanged
returns-clause-unchanged c = λ e. absurd (not-own c.args.map.now c.as_slice.result.now c.are_own-same.result c.as_slice.ensures c.are_own-same.ensures c.if-same.false (e ∙ ap names_below (sym c.requires.count)))

pub returns-in_err-r-clause-unchanged : goal.returns-in_err-r-clause-unchanged
returns-in_err-r-clause-unchanged c = λ e. absurd (not-own c.args.map.now c.as_slice.result.now c.are_own-same.result c.as_slice.ensures c.are_own-same.ensures c.if-same.false (e ∙ ap names_below (sym c.requires.count)))

pub returns-then-same-clause-grows : goal.returns-then-same-clause-grows
returns-then-same-clause-grows c = grows-refl c.args.heap.now []
