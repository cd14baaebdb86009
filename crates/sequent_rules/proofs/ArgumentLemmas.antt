-- The equations of patterns with arguments, one after the other.
use Rattle.std.proofs.Common.{◌≡◌, ℕ, zero, suc, ◌<◌, ◌≤◌, nat_lt, Bool, true, false, List, [], ◌∷◌, ◌++◌, map, length, drop, get_or, refl, sym, ap, ap₂, ◌∙◌, arith, append_assoc, append-nil, ltb-true, ltb-false}
use Rattle.std.proofs.lemmas.List.{length-map}
use Rattle.level_terms.specs.declared.node.TermId.{TermId}
use Rattle.level_terms.specs.Gains.{GainsNodes}
use Rattle.level_terms.specs.Graph.{Graph}
use Rattle.level_terms.specs.Reading.{read}
use Rattle.level_terms.specs.Sound.{IsSound}
use Rattle.level_terms.specs.Valid.{IsValid}
use Rattle.level_terms.proofs.GainLemmas.{gains-valid}
use Rattle.level_terms.proofs.ReadLemmas.{valid-below}
use Rattle.level_terms.proofs.ValidLemmas.{growth_keeps_readings}
use Rattle.beta_fragment.specs.Names.{names}
use Rattle.beta_fragment.specs.HeadForm.{all_read, AllValidAt}
use Rattle.ref_terms.specs.terms.Term.{Term}
use Rattle.ref_terms.specs.unification.Problem as problem
use Rattle.ref_terms.specs.unification.Rules.{equations_of}
use Rattle.ref_terms.specs.search.Joint.{over_joint}
use Rattle.sequent_rules.specs.declared.matching.Equation.{Equation}
use Rattle.sequent_rules.specs.inside.Equations.{equations_in, AllEquationsValid}
use Rattle.sequent_rules.proofs.EquationLemmas.{valid-at, equations-next, equations-left-none, equations-right-none, equations-kept}
use Rattle.sequent_rules.proofs.KeptLemmas.{Keeps}
use Rattle.sequent_rules.proofs.SolvingLemmas.{drop-whole}

pub drop-read : {A B : Type 0} (f : A → B) (xs : List A) (i : ℕ) (d : A) → i < length xs → drop i (map f xs) ≡ f (get_or xs i d) ∷ drop (suc i) (map f xs)
drop-read f [] i d h = absurd (omega (arith, h))
drop-read f (x ∷ xs) zero d h = refl
drop-read f (x ∷ xs) (suc i) d h = drop-read f xs i d (omega (arith, h))

pub drop-over : {A B C : Type 0} (k : B → C) (f : A → B) (xs : List A) (i : ℕ) (d : A) → i < length xs → drop i (map k (map f xs)) ≡ k (f (get_or xs i d)) ∷ drop (suc i) (map k (map f xs))
drop-over k f [] i d h = absurd (omega (arith, h))
drop-over k f (x ∷ xs) zero d h = refl
drop-over k f (x ∷ xs) (suc i) d h = drop-over k f xs i d (omega (arith, h))

-- a node of a list, in a heap that has gained nodes
pub node-valid : (g h : Graph) (depth : ℕ) (ts : List TermId) (i : ℕ) (d : TermId) → IsSound g → GainsNodes g h → AllValidAt g ts depth → i < length ts → IsValid h (get_or ts i d).index depth
node-valid g h depth ts i d s w v l = gains-valid g h (get_or ts i d).index depth s w (valid-at g depth ts i d v l)

pub node-reads : (g h : Graph) (depth : ℕ) (ts : List TermId) (i : ℕ) (d : TermId) → IsSound g → GainsNodes g h → AllValidAt g ts depth → i < length ts → read h (get_or ts i d).index names ≡ read g (get_or ts i d).index names
node-reads g h depth ts i d s w v l = growth_keeps_readings g h (get_or ts i d).index names s w.grows (valid-below g (get_or ts i d).index depth (valid-at g depth ts i d v l))

module _ (g : Graph) (n own : ℕ) (m : List ℕ) (ps ts : List TermId) (i : ℕ) (before whole : List problem.Equation)
    (is : before ++ equations_of n (drop i (all_read g ps)) (drop i (map (over_joint m) (all_read g ts))) ≡ whole) where
  -- one more argument
  pub arguments-step : (h : Graph) (dp dt : TermId) (after : List problem.Equation) → IsSound g → GainsNodes g h → AllValidAt g ps n → AllValidAt g ts own → i < length ps → i < length ts
      → after ≡ before ++ record { names = n; left = read h (get_or ps i dp).index names; right = over_joint m (read h (get_or ts i dt).index names) } ∷ []
      → after ++ equations_of n (drop (suc i) (all_read g ps)) (drop (suc i) (map (over_joint m) (all_read g ts))) ≡ whole
  arguments-step h dp dt after s w vp vt lp lt e =
      let left = node-reads g h n ps i dp s w vp lp in
      let right = ap (over_joint m) (node-reads g h own ts i dt s w vt lt) in
      let rest : List problem.Equation = equations_of n (drop (suc i) (all_read g ps)) (drop (suc i) (map (over_joint m) (all_read g ts))) in
      let old : problem.Equation = record { names = n; left = read g (get_or ps i dp).index names; right = over_joint m (read g (get_or ts i dt).index names) } in
      let one : ◌≡◌ {A = problem.Equation} (record { names = n; left = read h (get_or ps i dp).index names; right = over_joint m (read h (get_or ts i dt).index names) }) old = λ j. record { names = n; left = left j; right = right j } in
      ap (λ (xs : List problem.Equation). xs ++ rest) (e ∙ ap (λ (x : problem.Equation). before ++ x ∷ []) one)
      ∙ append_assoc before (old ∷ []) rest
      ∙ ap (λ (xs : List problem.Equation). before ++ xs) (sym (equations-next n (all_read g ps) (map (over_joint m) (all_read g ts)) i _ _ _ _ (drop-read (λ t. read g t.index names) ps i dp lp) (drop-over (over_joint m) (λ t. read g t.index names) ts i dt lt)))
      ∙ is

  -- no pattern or no argument is left
  pub arguments-end : (i < length ps → i < length ts → ⊥) → before ≡ whole
  arguments-end never = sym (append-nil before) ∙ ap (λ (xs : List problem.Equation). before ++ xs) (sym none) ∙ is
    where
      none : equations_of n (drop i (all_read g ps)) (drop i (map (over_joint m) (all_read g ts))) ≡ []
      none = go (nat_lt i (length ps)) refl
        where
          left-none : length ps ≤ i → equations_of n (drop i (all_read g ps)) (drop i (map (over_joint m) (all_read g ts))) ≡ []
          left-none h = equations-left-none n (drop i (all_read g ps)) (drop i (map (over_joint m) (all_read g ts))) (drop-whole (all_read g ps) i (let k = length-map ps (λ t. read g t.index names) in omega (arith, h, k)))

          right-none : length ts ≤ i → equations_of n (drop i (all_read g ps)) (drop i (map (over_joint m) (all_read g ts))) ≡ []
          right-none h =
              equations-right-none n (drop i (all_read g ps)) (drop i (map (over_joint m) (all_read g ts)))
              (drop-whole (map (over_joint m) (all_read g ts)) i (let j = length-map (all_read g ts) (over_joint m) in let k = length-map ts (λ t. read g t.index names) in omega (arith, h, j, k)))

          go : (b : Bool) → nat_lt i (length ps) ≡ b → equations_of n (drop i (all_read g ps)) (drop i (map (over_joint m) (all_read g ts))) ≡ []
          go false q = left-none (ltb-false i (length ps) q)
          go true q = right-none (let k = never (ltb-true i (length ps) q) in past k)
            where
              past : (i < length ts → ⊥) → length ts ≤ i
              past k = other (nat_lt i (length ts)) refl
                where
                  other : (b : Bool) → nat_lt i (length ts) ≡ b → length ts ≤ i
                  other false z = ltb-false i (length ts) z
                  other true z = absurd (k (ltb-true i (length ts) z))

-- the equation of a list that was made before
pub equation-through : (g h : Graph) (n : ℕ) (es : List Equation) (p : TermId) (u t : Term) (after : List problem.Equation) → Keeps g h → AllEquationsValid g n es → IsValid g p.index n → u ≡ t
    → after ≡ equations_in h n es ++ record { names = n; left = read h p.index names; right = u } ∷ [] → after ≡ equations_in g n es ++ record { names = n; left = read g p.index names; right = t } ∷ []
equation-through g h n es p u t after k v vp e is =
    let left = k.reads p.index n vp in
    let one : ◌≡◌ {A = problem.Equation} (record { names = n; left = read h p.index names; right = u }) (record { names = n; left = read g p.index names; right = t }) = λ j. record { names = n; left = left j; right = e j } in
    is ∙ ap₂ (λ (xs : List problem.Equation) (x : problem.Equation). xs ++ x ∷ []) (equations-kept g h n es k v) one
