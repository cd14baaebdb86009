-- Steps of the walk that puts a term in the place of an index.
use Rattle.std.proofs.Common.{◌≡◌, ℕ, suc, ◌<◌, ◌≤◌, ◌+◌, List, [], ◌∷◌, ◌++◌, length, map, reverse, refl, sym, ap, ap₂, ◌∙◌, arith, subst, true, false, Option, Some, None, option_map, MatchOption}
use Rattle.std.proofs.lemmas.List.{reverse-append}
use Rattle.ref_terms.specs.terms.Term as term
use Rattle.ref_terms.specs.terms.Term.{Term}
use Rattle.ref_terms.specs.terms.Eta.{both}
use Rattle.beta_fragment.specs.declared.taking.Replacement.{Replacement}
use Rattle.beta_fragment.specs.declared.taking.Replacement.TheVariants.{Part, Missing, Raised}
use Rattle.beta_fragment.specs.declared.taking.Task.{Task}
use Rattle.beta_fragment.specs.declared.taking.Task.TheVariants.{Visit, Lam, App}
use Rattle.beta_fragment.specs.inside.Cells.{term_at, Gains, IsKept, IsKeptIfAny}
use Rattle.beta_fragment.specs.inside.Taking.{replaced, outside, images, raised, PartThere, IsHeadTerm, AllThere, Comes, weight, cost, Steps, IsReady}
use Rattle.beta_fragment.proofs.CellLemmas.{gains-at, gains-longer, gains-refl}
use Rattle.beta_fragment.proofs.TakingLaws.{images-stay, raised-image, raised-none}

-- the newest item
pub newest : {A : Type 0} (xs : List A) (x : A) → reverse (xs ++ x ∷ []) ≡ x ∷ reverse xs
newest xs x = reverse-append xs (x ∷ [])

-- what is done stays as terms are added
pub done-stays : (old new : List Term) (done : List ℕ) → Gains old new → AllThere (length old) done → map (term_at new) done ≡ map (term_at old) done
done-stays old new [] g h = refl
done-stays old new (i ∷ done) g h = ap₂ (λ (x : Term) (xs : List Term). x ∷ xs) (gains-at old new g i h.0) (done-stays old new done g h.1)

pub done-there : (old new : List Term) (done : List ℕ) → Gains old new → AllThere (length old) done → AllThere (length new) done
done-there old new [] g h = tt
done-there old new (i ∷ done) g h = (gains-longer old new g i h.0, done-there old new done g h.1)

cost-some : (ts : List Term) (put : Replacement) → 1 ≤ cost ts put
cost-some ts (Part p) = omega arith
cost-some ts Missing = omega arith
cost-some ts (Raised j) = omega arith

weight-some : (c : ℕ) → 1 ≤ c → (t : Term) → 1 ≤ weight c t
weight-some c h (term.Lam b) = omega arith
weight-some c h (term.At k) = h
weight-some c h (term.App f a) = omega arith

size-some : (ts : List Term) (put : Replacement) (t : Term) → 1 ≤ weight (cost ts put) t
size-some ts put t = weight-some (cost ts put) (cost-some ts put) t

head-weight : (c : ℕ) (t : Term) → IsHeadTerm t → weight c t ≡ c
head-weight c (term.At h) w = refl
head-weight c (term.Lam b) w = absurd w
head-weight c (term.App f a) w = absurd w

match-map : (q : Option Term) (f : Term → Term) (P : Type 0) (Q : Term → Type 0) → MatchOption (option_map f q) P Q → MatchOption q P (λ v. Q (f v))
match-map None f P Q h = h
match-map (Some x) f P Q h = h

match-both : (p q : Option Term) (P R S : Type 0) (Q : Term → Type 0) → R → S → MatchOption (both p q) P Q → MatchOption p P (λ v. R × S × MatchOption q P (λ w. Q (term.App v w)))
match-both None q P R S Q r s h = h
match-both (Some v) None P R S Q r s h = (r, s, h)
match-both (Some v) (Some w) P R S Q r s h = (r, s, h)

module _ (put : Replacement) where
  same_images : (ts old : List Term) (t k : ℕ) → Gains ts old → t < length ts → PartThere (length ts) put → replaced (images ts put k) (term_at ts t) ≡ replaced (images old put k) (term_at old t)
  same_images ts old t k gs h w = ap₂ (λ (f : ℕ → Option Term) (x : Term). replaced f x) (sym (images-stay ts old put k gs w)) (sym (gains-at ts old gs t h))

  -- a visit that is done at once
  pub steps-done : (old new : List Term) (work : List Task) (done : List ℕ) (t k r : ℕ) (x : Term) → Gains old new → AllThere (length old) done → replaced (images old put k) (term_at old t) ≡ Some x → IsKept new r x →
      Steps true (record { terms = old; work = Visit put t k ∷ work; done = done }) (record { terms = new; work = work; done = r ∷ done })
  steps-done old new work done t k r x g there e kept = record {
    comes = λ ts o gs l.
        let here : replaced (images ts put k) (term_at ts t) ≡ Some x = same_images ts old t k gs l.0 l.1 ∙ e in
        let next = subst (λ q. MatchOption q (o ≡ None) (λ v. Comes ts work (v ∷ map (term_at old) done) o)) here l.2 in
        subst (λ xs. Comes ts work xs o) (sym (ap₂ (λ (y : Term) (ys : List Term). y ∷ ys) kept.term (done-stays old new done g there))) next;
    falls = λ ts o gs l. let some = size-some ts put (term_at ts t) in omega (arith, some);
  }

  -- a visit that finds that there is no term
  pub steps-none : (old : List Term) (work : List Task) (done : List ℕ) (t k : ℕ) → replaced (images old put k) (term_at old t) ≡ None →
      Steps false (record { terms = old; work = Visit put t k ∷ work; done = done }) (record { terms = old; work = work; done = done })
  steps-none old work done t k e = record {
    comes = λ ts o gs l.
        let here : replaced (images ts put k) (term_at ts t) ≡ None = same_images ts old t k gs l.0 l.1 ∙ e in
        subst (λ q. MatchOption q (o ≡ None) (λ v. Comes ts work (v ∷ map (term_at old) done) o)) here l.2;
    falls = λ ts o gs l. let some = size-some ts put (term_at ts t) in omega (arith, some);
  }

  -- a visit of an abstraction
  pub steps-lam : (old : List Term) (work : List Task) (done : List ℕ) (t k b : ℕ) → b < t → term_at old t ≡ term.Lam (term_at old b) →
      Steps true (record { terms = old; work = Visit put t k ∷ work; done = done }) (record { terms = old; work = Visit put b (k + 1) ∷ Lam ∷ work; done = done })
  steps-lam old work done t k b below e = record {
    comes = λ ts o gs l.
        let m = subst (λ x. MatchOption (replaced (images ts put k) x) (o ≡ None) (λ v. Comes ts work (v ∷ map (term_at old) done) o)) (seen ts gs l.0) l.2 in
        let inner = match-map (replaced (images ts put (suc k)) (term_at ts b)) term.Lam (o ≡ None) (λ v. Comes ts work (v ∷ map (term_at old) done) o) m in
        let same : suc k ≡ k + 1 = omega arith in
        (inside ts l.0, l.1, subst (λ n. MatchOption (replaced (images ts put n) (term_at ts b)) (o ≡ None) (λ v. Comes ts (Lam ∷ work) (v ∷ map (term_at old) done) o)) same inner);
    falls = λ ts o gs l. let size = ap (weight (cost ts put)) (seen ts gs l.0) in omega (arith, size);
  }
    where
      inside : (ts : List Term) → t < length ts → b < length ts
      inside ts h = omega (arith, h, below)

      seen : (ts : List Term) → Gains ts old → t < length ts → term_at ts t ≡ term.Lam (term_at ts b)
      seen ts gs h = sym (gains-at ts old gs t h) ∙ e ∙ ap term.Lam (gains-at ts old gs b (inside ts h))

  -- a visit of an application
  pub steps-app : (old : List Term) (work : List Task) (done : List ℕ) (t k f a : ℕ) → f < t → a < t → term_at old t ≡ term.App (term_at old f) (term_at old a) →
      Steps true (record { terms = old; work = Visit put t k ∷ work; done = done }) (record { terms = old; work = Visit put f k ∷ Visit put a k ∷ App ∷ work; done = done })
  steps-app old work done t k f a below below' e = record {
    comes = λ ts o gs l.
        let m = subst (λ x. MatchOption (replaced (images ts put k) x) (o ≡ None) (λ v. Comes ts work (v ∷ map (term_at old) done) o)) (seen ts gs l.0) l.2 in
        (inside ts f below l.0, l.1, match-both (replaced (images ts put k) (term_at ts f)) (replaced (images ts put k) (term_at ts a)) (o ≡ None) (a < length ts) (PartThere (length ts) put) (λ v. Comes ts work (v ∷ map (term_at old) done) o) (inside ts a below' l.0) l.1 m);
    falls = λ ts o gs l. let size = ap (weight (cost ts put)) (seen ts gs l.0) in omega (arith, size);
  }
    where
      inside : (ts : List Term) (i : ℕ) → i < t → t < length ts → i < length ts
      inside ts i b h = omega (arith, h, b)

      seen : (ts : List Term) → Gains ts old → t < length ts → term_at ts t ≡ term.App (term_at ts f) (term_at ts a)
      seen ts gs h = sym (gains-at ts old gs t h) ∙ e ∙ ap₂ term.App (gains-at ts old gs f (inside ts f below h)) (gains-at ts old gs a (inside ts a below' h))

  -- a visit of an index that gets a term, which has to be raised
  pub steps-raised : (old : List Term) (work : List Task) (done : List ℕ) (t k p : ℕ) → put ≡ Part p → IsHeadTerm (term_at old t) → (j : ℕ) → replaced (images old put k) (term_at old t) ≡ Some (raised j (term_at old p)) →
      Steps true (record { terms = old; work = Visit put t k ∷ work; done = done }) (record { terms = old; work = Visit (Raised j) p 0 ∷ work; done = done })
  steps-raised old work done t k p i head j e = record {
    comes = λ ts o gs l.
        let inside = there ts l.1 in
        let here : replaced (images ts put k) (term_at ts t) ≡ Some (raised j (term_at ts p)) = same_images ts old t k gs l.0 l.1 ∙ e ∙ ap (λ x. Some (raised j x)) (gains-at ts old gs p inside) in
        let next = subst (λ q. MatchOption q (o ≡ None) (λ v. Comes ts work (v ∷ map (term_at old) done) o)) (here ∙ sym (raised-image j (term_at ts p))) l.2 in
        (inside, tt, next);
    falls = λ ts o gs l.
        let some : weight (cost ts put) (term_at ts t) ≡ cost ts put = head-weight (cost ts put) (term_at ts t) (subst IsHeadTerm (gains-at ts old gs t l.0) head) in
        let whole : cost ts put ≡ suc (weight 1 (term_at ts p)) = ap (cost ts) i in
        omega (arith, some, whole);
  }
    where
      there : (ts : List Term) → PartThere (length ts) put → p < length ts
      there ts h = subst (PartThere (length ts)) i h

-- an abstraction is made
pub steps-made_lam : (old new : List Term) (work : List Task) (done : List ℕ) (b r : ℕ) → Gains old new → AllThere (length old) done → IsKept new r (term.Lam (term_at old b)) →
    Steps true (record { terms = old; work = Lam ∷ work; done = b ∷ done }) (record { terms = new; work = work; done = r ∷ done })
steps-made_lam old new work done b r g there kept = record {
  comes = λ ts o gs l. subst (λ xs. Comes ts work xs o) (sym (ap₂ (λ (y : Term) (ys : List Term). y ∷ ys) kept.term (done-stays old new done g there))) l;
  falls = λ ts o gs l. omega arith;
}

-- an application is made
pub steps-made_app : (old new : List Term) (work : List Task) (done : List ℕ) (f a r : ℕ) → Gains old new → AllThere (length old) done → IsKept new r (term.App (term_at old f) (term_at old a)) →
    Steps true (record { terms = old; work = App ∷ work; done = a ∷ f ∷ done }) (record { terms = new; work = work; done = r ∷ done })
steps-made_app old new work done f a r g there kept = record {
  comes = λ ts o gs l. subst (λ xs. Comes ts work xs o) (sym (ap₂ (λ (y : Term) (ys : List Term). y ∷ ys) kept.term (done-stays old new done g there))) l;
  falls = λ ts o gs l. omega arith;
}

-- the first task
pub comes-first : (ts : List Term) (put : Replacement) (t : ℕ) → t < length ts → PartThere (length ts) put → Comes ts (Visit put t 0 ∷ []) [] (replaced (outside ts put) (term_at ts t))
comes-first ts put t h w = (h, w, go (replaced (outside ts put) (term_at ts t)))
  where
    go : (o : Option Term) → MatchOption o (o ≡ None) (λ v. o ≡ Some v)
    go None = refl
    go (Some v) = refl

part-longer : (ts now : List Term) (put : Replacement) → Gains ts now → PartThere (length ts) put → PartThere (length now) put
part-longer ts now (Part p) g h = gains-longer ts now g p h
part-longer ts now Missing g h = tt
part-longer ts now (Raised j) g h = tt

-- the next task can be done
pub comes-ready : (ts now : List Term) (task : Task) (work : List Task) (done : List ℕ) (o : Option Term) → Gains ts now → Comes ts (task ∷ work) (map (term_at now) done) o → IsReady (length now) (length done) task
comes-ready ts now (Visit put t k) work done o g l = (gains-longer ts now g t l.0, part-longer ts now put g l.1)
comes-ready ts now Lam work [] o g l = absurd l
comes-ready ts now Lam work (b ∷ done) o g l = omega arith
comes-ready ts now App work [] o g l = absurd l
comes-ready ts now App work (a ∷ []) o g l = absurd l
comes-ready ts now App work (a ∷ f ∷ done) o g l = omega arith

-- nothing is left to do
pub comes-last : (ts now : List Term) (r : ℕ) (done : List ℕ) (o : Option Term) → AllThere (length now) (r ∷ done) → Comes ts [] (map (term_at now) (r ∷ done)) o → IsKeptIfAny now (Some r) o
comes-last ts now r [] o there l = subst (IsKeptIfAny now (Some r)) (sym l) (record { there = there.0; term = refl })
comes-last ts now r (i ∷ done) o there l = absurd l

pub comes-some : (ts now : List Term) (done : List ℕ) (o : Option Term) → Comes ts [] (map (term_at now) done) o → done ≡ [] → ⊥
comes-some ts now done o l e = subst (λ ds. Comes ts [] (map (term_at now) ds) o) e l

-- there is none
pub none-kept : (now : List Term) (o : Option Term) → o ≡ None → IsKeptIfAny now None o
none-kept now o e = subst (IsKeptIfAny now None) (sym e) tt

-- what is pushed, and what was popped
pub pushed : {A : Type 0} (rest all : List A) (x : A) → all ≡ rest ++ x ∷ [] → reverse all ≡ x ∷ reverse rest
pushed rest all x e = ap reverse e ∙ newest rest x

pub pushed-there : (new : List Term) (rest all : List ℕ) (r : ℕ) → all ≡ rest ++ r ∷ [] → r < length new → AllThere (length new) (reverse rest) → AllThere (length new) (reverse all)
pushed-there new rest all r e h there = subst (AllThere (length new)) (sym (pushed rest all r e)) (h, there)

module _ (put : Replacement) where
  -- the steps over lists as the walk keeps them, oldest first
  pub kept-steps : (old new : List Term) (work : List Task) (done all : List ℕ) (t k r : ℕ) (x : Term) → Gains old new → AllThere (length old) (reverse done) → replaced (images old put k) (term_at old t) ≡ Some x → IsKept new r x → all ≡ done ++ r ∷ [] →
      Steps true (record { terms = old; work = Visit put t k ∷ work; done = reverse done }) (record { terms = new; work = work; done = reverse all })
  kept-steps old new work done all t k r x g there e kept p =
      subst (λ ds. Steps true (record { terms = old; work = Visit put t k ∷ work; done = reverse done }) (record { terms = new; work = work; done = ds })) (sym (pushed done all r p))
      (steps-done put old new work (reverse done) t k r x g there e kept)

  pub visits-lam : (old : List Term) (work one all : List Task) (done : List ℕ) (t k b inner : ℕ) → b < t → term_at old t ≡ term.Lam (term_at old b) → inner ≡ k + 1 → one ≡ work ++ Lam ∷ [] → all ≡ one ++ Visit put b inner ∷ [] →
      Steps true (record { terms = old; work = Visit put t k ∷ reverse work; done = done }) (record { terms = old; work = reverse all; done = done })
  visits-lam old work one all done t k b inner below e i p q =
      let same : reverse all ≡ Visit put b (k + 1) ∷ Lam ∷ reverse work = pushed one all (Visit put b inner) q ∙ ap₂ (λ (n : ℕ) (ws : List Task). Visit put b n ∷ ws) i (pushed work one Lam p) in
      subst (λ ws. Steps true (record { terms = old; work = Visit put t k ∷ reverse work; done = done }) (record { terms = old; work = ws; done = done })) (sym same)
      (steps-lam put old (reverse work) done t k b below e)

  pub visits-app : (old : List Term) (work one two all : List Task) (done : List ℕ) (t k f a : ℕ) → f < t → a < t → term_at old t ≡ term.App (term_at old f) (term_at old a) → one ≡ work ++ App ∷ [] → two ≡ one ++ Visit put a k ∷ [] → all ≡ two ++ Visit put f k ∷ [] →
      Steps true (record { terms = old; work = Visit put t k ∷ reverse work; done = done }) (record { terms = old; work = reverse all; done = done })
  visits-app old work one two all done t k f a below below' e p q r =
      let same : reverse all ≡ Visit put f k ∷ Visit put a k ∷ App ∷ reverse work =
      pushed two all (Visit put f k) r ∙ ap (λ (ws : List Task). Visit put f k ∷ ws) (pushed one two (Visit put a k) q ∙ ap (λ (ws : List Task). Visit put a k ∷ ws) (pushed work one App p)) in
      subst (λ ws. Steps true (record { terms = old; work = Visit put t k ∷ reverse work; done = done }) (record { terms = old; work = ws; done = done })) (sym same)
      (steps-app put old (reverse work) done t k f a below below' e)

  -- an index that gets a term as it is
  pub part-steps : (old : List Term) (work : List Task) (done all : List ℕ) (t k p j : ℕ) → AllThere (length old) (reverse done) → replaced (images old put k) (term_at old t) ≡ Some (raised j (term_at old p)) → j ≡ 0 → p < length old → all ≡ done ++ p ∷ [] →
      Steps true (record { terms = old; work = Visit put t k ∷ work; done = reverse done }) (record { terms = old; work = work; done = reverse all })
  part-steps old work done all t k p j there e z h q =
      kept-steps old old work done all t k p (term_at old p) (gains-refl old) there (e ∙ ap Some (ap (λ n. raised n (term_at old p)) z ∙ raised-none (term_at old p))) (record { there = h; term = refl }) q

  -- or raised
  pub raised-steps : (old : List Term) (work all : List Task) (done : List ℕ) (t k p j : ℕ) → put ≡ Part p → IsHeadTerm (term_at old t) → replaced (images old put k) (term_at old t) ≡ Some (raised j (term_at old p)) → all ≡ work ++ Visit (Raised j) p 0 ∷ [] →
      Steps true (record { terms = old; work = Visit put t k ∷ reverse work; done = done }) (record { terms = old; work = reverse all; done = done })
  raised-steps old work all done t k p j i head e q =
      subst (λ ws. Steps true (record { terms = old; work = Visit put t k ∷ reverse work; done = done }) (record { terms = old; work = ws; done = done })) (sym (pushed work all (Visit (Raised j) p 0) q))
      (steps-raised put old (reverse work) done t k p i head j e)

pub makes-lam : (old new : List Term) (work : List Task) (done rest all : List ℕ) (b r : ℕ) → Gains old new → AllThere (length old) (reverse done) → IsKept new r (term.Lam (term_at old b)) → done ≡ rest ++ b ∷ [] → all ≡ rest ++ r ∷ [] →
    Steps true (record { terms = old; work = Lam ∷ work; done = reverse done }) (record { terms = new; work = work; done = reverse all })
makes-lam old new work done rest all b r g there kept p q =
    let first = subst (AllThere (length old)) (pushed rest done b p) there in
    subst (λ ds. Steps true (record { terms = old; work = Lam ∷ work; done = reverse done }) (record { terms = new; work = work; done = ds })) (sym (pushed rest all r q))
    (subst (λ ds. Steps true (record { terms = old; work = Lam ∷ work; done = ds }) (record { terms = new; work = work; done = r ∷ reverse rest })) (sym (pushed rest done b p))
    (steps-made_lam old new work (reverse rest) b r g first.1 kept))

pub makes-app : (old new : List Term) (work : List Task) (done one rest all : List ℕ) (f a r : ℕ) → Gains old new → AllThere (length old) (reverse done) → IsKept new r (term.App (term_at old f) (term_at old a)) → done ≡ one ++ a ∷ [] → one ≡ rest ++ f ∷ [] → all ≡ rest ++ r ∷ [] →
    Steps true (record { terms = old; work = App ∷ work; done = reverse done }) (record { terms = new; work = work; done = reverse all })
makes-app old new work done one rest all f a r g there kept p p' q =
    let two : reverse done ≡ a ∷ f ∷ reverse rest = pushed one done a p ∙ ap (λ (ds : List ℕ). a ∷ ds) (pushed rest one f p') in
    let first = subst (AllThere (length old)) two there in
    subst (λ ds. Steps true (record { terms = old; work = App ∷ work; done = reverse done }) (record { terms = new; work = work; done = ds })) (sym (pushed rest all r q))
    (subst (λ ds. Steps true (record { terms = old; work = App ∷ work; done = ds }) (record { terms = new; work = work; done = r ∷ reverse rest })) (sym two)
    (steps-made_app old new work (reverse rest) f a r g first.1.1 kept))
