-- Sequents over joint names, in a heap that grows.
use Rattle.std.proofs.Common.{◌≡◌, ℕ, zero, suc, ◌+◌, ◌<◌, ◌≤◌, List, [], ◌∷◌, ◌++◌, length, take, get_or, slice_index, Option, Some, None, IfSome, refl, sym, ap, ◌∙◌, arith}
use Rattle.level_terms.specs.declared.node.TermId.{TermId}
use Rattle.level_terms.specs.Graph.{Graph}
use Rattle.level_terms.specs.Growth.{Grows}
use Rattle.level_terms.specs.Sound.{IsSound}
use Rattle.level_terms.specs.Valid.{IsValid}
use Rattle.level_terms.proofs.LocalLemmas.{readings_local}
use Rattle.level_terms.proofs.ReadLemmas.{valid-below, grown-reads}
use Rattle.level_terms.proofs.ValidLemmas.{growth_keeps_valid, valid_deeper}
use Rattle.ref_terms.specs.terms.Term.{Term}
use Rattle.ref_terms.specs.search.Joint.{over_joint}
use Rattle.ref_terms.specs.unification.Closing.{up_from, names_below}
use Rattle.beta_fragment.specs.Names.{names, renamed, AllBelow}
use Rattle.eigen_align.specs.declared.sequent.Sequent.{Sequent}
use Rattle.eigen_align.specs.Sequents.{IsSequent, AreSequents}
use Rattle.eigen_align.specs.Aligned.{IsLifted, IsLiftedIfAny, IsAligned, AreAlignedBy}
use Rattle.eigen_align.proofs.LiftLemmas.{lifted}
use Rattle.eigen_align.proofs.JointLemmas.{up-count, up-at}

-- what was lifted stays so
lifted-kept : (old h new : Graph) (t : TermId) (map : List ℕ) (d : ℕ) (r : TermId) → IsSound h → Grows h new [] [] → IsLifted old h t map d r → IsLifted old new t map d r
lifted-kept old h new t map d r s w l =
    let there = valid-below h r.index d l.valid in
    record {
      reads = ap (λ (f : (ℕ → Term) → Term). f names) (grown-reads h new s w r.index there) ∙ l.reads;
      valid = growth_keeps_valid h new [] [] r.index d s w there l.valid;
      same = l.same;
    }

-- and is the older term's
lifted-from : (old h new : Graph) (t : TermId) (own : ℕ) (map : List ℕ) (d : ℕ) (r : TermId) → IsSound old → Grows old h [] [] → IsValid old t.index own → IsLifted h new t map d r → IsLifted old new t map d r
lifted-from old h new t own map d r s w v l = record {
  reads = l.reads ∙ ap (λ (f : (ℕ → Term) → Term). over_joint map (f names)) (grown-reads old h s w t.index (valid-below old t.index own v));
  valid = l.valid;
  same = l.same;
}

any-kept : (old h new : Graph) (o : Option TermId) (map : List ℕ) (d : ℕ) (p : Option TermId) → IsSound h → Grows h new [] [] → IsLiftedIfAny old h o map d p → IsLiftedIfAny old new o map d p
any-kept old h new None map d None s w l = tt
any-kept old h new (Some t) map d (Some r) s w l = lifted-kept old h new t map d r s w l
any-kept old h new None map d (Some r) s w l = absurd l
any-kept old h new (Some t) map d None s w l = absurd l

any-from : (old h new : Graph) (o : Option TermId) (own : ℕ) (map : List ℕ) (d : ℕ) (p : Option TermId) → IsSound old → Grows old h [] [] → IfSome o (λ t. IsValid old t.index own) → IsLiftedIfAny h new o map d p → IsLiftedIfAny old new o map d p
any-from old h new None own map d None s w v l = tt
any-from old h new (Some t) own map d (Some r) s w v l = lifted-from old h new t own map d r s w v l
any-from old h new None own map d (Some r) s w v l = absurd l
any-from old h new (Some t) own map d None s w v l = absurd l

aligned-kept : (old h new : Graph) (s : Sequent) (map : List ℕ) (d : ℕ) (r : Sequent) → IsSound h → Grows h new [] [] → IsAligned old h s map d r → IsAligned old new s map d r
aligned-kept old h new s map d r k w a = record {
  depth = a.depth;
  goal = lifted-kept old h new s.goal map d r.goal k w a.goal;
  context = any-kept old h new s.context map d r.context k w a.context;
}

pub aligned-from : (old h new : Graph) (s : Sequent) (map : List ℕ) (d : ℕ) (r : Sequent) → IsSound old → Grows old h [] [] → IsSequent old s → IsAligned h new s map d r → IsAligned old new s map d r
aligned-from old h new s map d r k w v a = record {
  depth = a.depth;
  goal = lifted-from old h new s.goal s.depth map d r.goal k w v.0 a.goal;
  context = any-from old h new s.context s.depth map d r.context k w v.1 a.context;
}

-- a goal that was lifted, and then the context
pub both-aligned : (old h new : Graph) (s : Sequent) (map : List ℕ) (d : ℕ) (goal : TermId) (context : Option TermId) → IsSound old → IsSound h → IsSequent old s → Grows old h [] [] → Grows h new [] [] →
    IsLifted old h s.goal map d goal → IsLiftedIfAny h new s.context map d context → IsAligned old new s map d (record { depth = d; goal = goal; context = context })
both-aligned old h new s map d goal context k m v w z g c = record {
  depth = refl;
  goal = lifted-kept old h new s.goal map d goal m z g;
  context = any-from old h new s.context s.depth map d context k w v.1 c;
}

aligned-more : (old h new : Graph) (d : ℕ) (ss : List Sequent) (ms : List (List ℕ)) (rs : List Sequent) (s : Sequent) (m : List ℕ) (r : Sequent) → IsSound h → Grows h new [] [] → AreAlignedBy old h d ss ms rs → IsAligned old new s m d r →
    AreAlignedBy old new d (ss ++ s ∷ []) (ms ++ m ∷ []) (rs ++ r ∷ [])
aligned-more old h new d [] [] [] s m r k w a b = (b, tt)
aligned-more old h new d (x ∷ ss) (y ∷ ms) (z ∷ rs) s m r k w a b = (aligned-kept old h new x y d z k w a.0, aligned-more old h new d ss ms rs s m r k w a.1 b)
aligned-more old h new d [] [] (z ∷ rs) s m r k w a b = absurd a
aligned-more old h new d [] (y ∷ ms) rs s m r k w a b = absurd a
aligned-more old h new d (x ∷ ss) [] rs s m r k w a b = absurd a
aligned-more old h new d (x ∷ ss) (y ∷ ms) [] s m r k w a b = absurd a

take-more : {X : Type 0} (xs : List X) (i : ℕ) (d : X) → i < length xs → take (suc i) xs ≡ take i xs ++ get_or xs i d ∷ []
take-more [] i d h = absurd (omega (arith, h))
take-more (x ∷ xs) zero d h = refl
take-more (x ∷ xs) (suc i) d h = ap (λ ys. x ∷ ys) (take-more xs i d (omega (arith, h)))

pub take-whole : {X : Type 0} (xs : List X) (i : ℕ) → length xs ≤ i → take i xs ≡ xs
take-whole [] zero h = refl
take-whole [] (suc i) h = refl
take-whole (x ∷ xs) zero h = absurd (omega (arith, h))
take-whole (x ∷ xs) (suc i) h = ap (λ ys. x ∷ ys) (take-whole xs i (omega (arith, h)))

-- one sequent more
pub aligned-next : (old h new : Graph) (d : ℕ) (ss : List Sequent) (ms : List (List ℕ)) (rs more : List Sequent) (i : ℕ) (e : Sequent) (m : List ℕ) (r : Sequent) → IsSound h → Grows h new [] [] → i < length ss → i < length ms →
    AreAlignedBy old h d (take i ss) (take i ms) rs → IsAligned old new (get_or ss i e) (get_or ms i m) d r → more ≡ rs ++ r ∷ [] → AreAlignedBy old new d (take (suc i) ss) (take (suc i) ms) more
aligned-next old h new d ss ms rs more i e m r k w l n a b q =
    rw (take-more ss i e l) (rw (take-more ms i m n) (rw q (aligned-more old h new d (take i ss) (take i ms) rs (get_or ss i e) (get_or ms i m) r k w a b)))

-- names that stand for themselves
own-up : (xs : List ℕ) (k : ℕ) → ((j : ℕ) → j < length xs → slice_index xs j ≡ k + j) → xs ≡ up_from k (length xs)
own-up [] k w = refl
own-up (x ∷ xs) k w =
    let first : x ≡ k = (let e : x ≡ k + 0 = w 0 (omega arith) in omega (arith, e)) in
    ap (λ (y : ℕ). y ∷ xs) first ∙ ap (λ (ys : List ℕ). k ∷ ys) (own-up xs (suc k) (λ j h. (let e : slice_index xs j ≡ k + suc j = w (suc j) (omega (arith, h)) in omega (arith, e))))

pub own-names : (xs : List ℕ) (n : ℕ) → length xs ≤ n → ((j : ℕ) → j < n → slice_index xs j ≡ j) → xs ≡ names_below (length xs)
own-names xs n l w = own-up xs 0 (λ j h. (let e : slice_index xs j ≡ j = w j (omega (arith, h, l)) in omega (arith, e)))

pub other-name : (xs : List ℕ) (i : ℕ) → i < length xs → (slice_index xs i ≡ i → ⊥) → xs ≡ names_below (length xs) → ⊥
other-name xs i h w e = w (ap (λ (ys : List ℕ). slice_index ys i) e ∙ up-at 0 (length xs) i h ∙ (let k : 0 + i ≡ i = omega arith in k))

-- a term that keeps its names is over the joint names as it is
own-low : (map : List ℕ) (own d : ℕ) → map ≡ names_below own → AllBelow map d → own ≤ d
own-low map zero d e w = omega arith
own-low map (suc n) d e w =
    let long : length map ≡ suc n = ap length e ∙ up-count 0 (suc n) in
    let last : slice_index map n ≡ n = ap (λ (ys : List ℕ). slice_index ys n) e ∙ up-at 0 (suc n) n (omega arith) ∙ (let k : 0 + n ≡ n = omega arith in k) in
    let low = w n (omega (arith, long)) in
    omega (arith, low, last)

pub kept-lifted : (g : Graph) (t : TermId) (own : ℕ) (map : List ℕ) (d : ℕ) → IsSound g → IsValid g t.index own → length map ≡ own → map ≡ names_below (length map) → AllBelow map d → IsLifted g g t map d t
kept-lifted g t own map d s v long e w =
    let mine : map ≡ names_below own = e ∙ ap names_below long in
    record {
      reads = readings_local g t.index own names (renamed map) v (λ i h. ap names (sym (ap (λ (ys : List ℕ). slice_index ys i) mine ∙ up-at 0 own i h ∙ (let k : 0 + i ≡ i = omega arith in k)))) ∙ lifted g t.index map s;
      valid = valid_deeper g t.index own d v (own-low map own d mine w);
      same = λ q. refl;
    }

-- all are the older sequents
pub all-from : (old h new : Graph) (d : ℕ) (ss : List Sequent) (ms : List (List ℕ)) (rs : List Sequent) → IsSound old → Grows old h [] [] → AreSequents old ss → AreAlignedBy h new d ss ms rs → AreAlignedBy old new d ss ms rs
all-from old h new d [] [] [] k w v a = tt
all-from old h new d (s ∷ ss) (m ∷ ms) (r ∷ rs) k w v a = (aligned-from old h new s m d r k w v.0 a.0, all-from old h new d ss ms rs k w v.1 a.1)
all-from old h new d [] [] (r ∷ rs) k w v a = absurd a
all-from old h new d [] (m ∷ ms) rs k w v a = absurd a
all-from old h new d (s ∷ ss) [] rs k w v a = absurd a
all-from old h new d (s ∷ ss) (m ∷ ms) [] k w v a = absurd a
