-- The firing that the full scan finds: its rule hadn't fired on these constraints, which are distinct ones of the store,
-- and each of its assumptions has its constant at the head.
use Rattle.std.proofs.Common.{◌≡◌, ℕ, suc, Bool, true, false, cond, ◌&&◌, not, nat_eq, List, [], ◌∷◌, ◌++◌, map, flat_map, Option, Some, None, refl, sym, ◌∙◌, subst, append_assoc, eq-eqb, ne_eqb}
use Rattle.std.specs.List.{list_all}
use Rattle.ref_terms.specs.terms.Term.{Term, At, Var}
use Rattle.ref_terms.specs.unification.Problem.{Answer, Solved, Clashed, Faulted}
use Rattle.ref_terms.specs.unification.Unification.{unify}
use Rattle.ref_terms.specs.declared.fault.Fault.TheVariants.{NotGoal}
use Rattle.ref_terms.specs.search.Fault.{of_unification, Judged, Good, Bad, judged_map, judged_append}
use Rattle.ref_terms.specs.search.Program.{Rule}
use Rattle.ref_terms.specs.search.Assumption.{Assumption, assumptions_of}
use Rattle.ref_terms.specs.search.Branch.{Constraint, Fired, Branch}
use Rattle.ref_terms.specs.search.Joint.{Joint, joint}
use Rattle.ref_terms.specs.search.RuleMatch.{heads_of, fit_heads}
use Rattle.ref_terms.specs.search.RuleTest.{holds}
use Rattle.ref_terms.specs.search.RuleInstance.{Firing, is_fired, first_assumptions, clauses_of_items, clauses_of_list, body_assumptions, without_kept, matched_value, firing, after_matching, matched_at, admitted, rule_instance}
use Rattle.ref_terms.specs.search.FirstRule.{picks, tuples, or_later, first_tuple, first_firing}
use Rattle.ref_terms.specs.search.Lists.{items_of}
use Rattle.ref_terms.specs.search.Used.{Every}
use Rattle.ref_terms.proofs.search.TouchedLemmas.{every-append, every-weaker, every-mapped, every-tuple}
use Rattle.hyp_clause.specs.Headed.{AllHeaded}
use Rattle.hyp_clause.proofs.HeadedLemmas.{assumed-headed}
use Rattle.search_moves.specs.Firing.{has_number, AllDiffer}

pub every-append-left : {A : Type 0} (P : A → Type 0) (xs ys : List A) → Every P (xs ++ ys) → Every P xs
every-append-left P [] ys w = tt
every-append-left P (x ∷ xs) ys w = (w.0, every-append-left P xs ys w.1)

every-append-right : {A : Type 0} (P : A → Type 0) (xs ys : List A) → Every P (xs ++ ys) → Every P ys
every-append-right P [] ys w = w
every-append-right P (x ∷ xs) ys w = every-append-right P xs ys w.1

every-both : {A : Type 0} (P Q R : A → Type 0) → ((a : A) → P a → Q a → R a) → (xs : List A) → Every P xs → Every Q xs → Every R xs
every-both P Q R h [] u w = tt
every-both P Q R h (x ∷ xs) u w = (h x u.0 w.0, every-both P Q R h xs u.1 w.1)

every-flat : {A B : Type 0} (P : B → Type 0) (f : A → List B) (xs : List A) → Every (λ a. Every P (f a)) xs → Every P (flat_map f xs)
every-flat P f [] w = tt
every-flat P f (x ∷ xs) w = every-append P (f x) (flat_map f xs) w.0 (every-flat P f xs w.1)

-- two constraints of different numbers
abbrev pub Differs : Constraint → Constraint → Type 0
Differs c d = nat_eq c.number d.number ≡ false

-- no two of these have one number
abbrev pub Apart : List Constraint → Type 0
Apart [] = Unit {0}
Apart (c ∷ cs) = Every (Differs c) cs × Apart cs

differs-back : (c d : Constraint) → Differs c d → Differs d c
differs-back c d e = ne_eqb d.number c.number (λ k. let z : true ≡ false = sym (eq-eqb c.number d.number (sym k)) ∙ e in cc)

-- each one and the others
apart-out : (before : List Constraint) (c : Constraint) (cs : List Constraint) → Apart (before ++ c ∷ cs) → Every (Differs c) (before ++ cs) × Apart (before ++ cs)
apart-out [] c cs w = w
apart-out (b ∷ before) c cs w =
    let more = apart-out before c cs w.1 in
    let others = every-append-right (Differs b) before (c ∷ cs) w.0 in
    ((differs-back b c others.0, more.0), (every-append (Differs b) before cs (every-append-left (Differs b) before (c ∷ cs) w.0) others.1, more.1))

picks-apart : (before cs : List Constraint) → Apart (before ++ cs) → Every (λ p. Every (Differs p.0) p.1 × Apart p.1) (picks before cs)
picks-apart before [] w = tt
picks-apart before (c ∷ cs) w = (apart-out before c cs w, picks-apart (before ++ c ∷ []) cs (subst Apart (sym (append_assoc before (c ∷ []) cs)) w))

-- the constraints of a tuple are distinct
tuples-apart : {H : Type 0} (hs : List H) (store : List Constraint) → Apart store → Every Apart (tuples hs store)
tuples-apart [] store w = (tt, tt)
tuples-apart (h ∷ hs) store w = every-flat Apart (λ p. map (λ cs. p.0 ∷ cs) (tuples hs p.1)) (picks [] store)
    (every-weaker (λ p. Every (Differs p.0) p.1 × Apart p.1) (λ p. Every Apart (map (λ cs. p.0 ∷ cs) (tuples hs p.1)))
    (λ p u. every-mapped Apart (λ cs. p.0 ∷ cs) (tuples hs p.1)
    (every-both (Every (Differs p.0)) Apart (λ cs. Apart (p.0 ∷ cs)) (λ cs a b. (a, b)) (tuples hs p.1) (every-tuple (Differs p.0) hs p.1 u.0) (tuples-apart hs p.1 u.1)))
    (picks [] store) (picks-apart [] store w))

-- a constraint of the branch's store with headed assumptions
abbrev pub IsOfStore : List Constraint → Constraint → Type 0
IsOfStore store c = (has_number store c.number ≡ true) × AllHeaded c.assumptions

-- distinct ones
abbrev AreOfStore : List Constraint → List Constraint → Type 0
AreOfStore store cs = Every (IsOfStore store) cs × Apart cs

all-tuples : {H : Type 0} (hs : List H) (store : List Constraint) → Every (IsOfStore store) store → Apart store → Every (AreOfStore store) (tuples hs store)
all-tuples hs store w a = every-both (Every (IsOfStore store)) Apart (AreOfStore store) (λ cs u v. (u, v)) (tuples hs store) (every-tuple (IsOfStore store) hs store w) (tuples-apart hs store a)

-- what is known of a firing that the full scan finds
pub record IsFound (b : Branch) (f : Firing) : Type 0 where
  pub not_yet : is_fired f.fired b.fired ≡ false
  pub there : Every (λ n. has_number b.store n ≡ true) f.removed
  pub differ : AllDiffer f.removed
  pub headed : AllHeaded f.assumptions

-- the numbers after the kept heads are some of all
kept-every : {A B : Type 0} (P : B → Type 0) (ks : List A) (xs : List B) → Every P xs → Every P (without_kept ks xs)
kept-every P [] xs w = w
kept-every P (k ∷ ks) [] w = tt
kept-every P (k ∷ ks) (x ∷ xs) w = kept-every P ks xs w.1

kept-differ : {A : Type 0} (ks : List A) (ns : List ℕ) → AllDiffer ns → AllDiffer (without_kept ks ns)
kept-differ [] ns w = w
kept-differ (k ∷ ks) [] w = tt
kept-differ (k ∷ ks) (n ∷ ns) w = kept-differ ks ns w.1

numbers-differ : (cs : List Constraint) → Apart cs → AllDiffer (map (λ c. c.number) cs)
numbers-differ [] w = tt
numbers-differ (c ∷ cs) w = (every-mapped (λ m. nat_eq c.number m ≡ false) (λ d. d.number) cs w.0, numbers-differ cs w.1)

headed-append : (xs ys : List Assumption) → AllHeaded xs → AllHeaded ys → AllHeaded (xs ++ ys)
headed-append [] ys u w = w
headed-append (x ∷ xs) ys u w = (u.0, headed-append xs ys u.1 w)

-- the clauses of terms are headed
items-headed : (names : ℕ) (ts : List Term) (hs : List Assumption) → clauses_of_items names ts ≡ Good hs → AllHeaded hs
items-headed names [] hs e = subst AllHeaded (let z : ◌≡◌ {A = Judged (List Assumption)} (Good []) (Good hs) = e in let k : ◌≡◌ {A = List Assumption} [] hs = cc in k) tt
items-headed names (t ∷ ts) hs e = go (assumptions_of names t) refl (clauses_of_items names ts) (λ ys q. items-headed names ts ys q) e
  where
    go : (x : Judged (List Assumption)) → assumptions_of names t ≡ x → (y : Judged (List Assumption)) → ((ys : List Assumption) → y ≡ Good ys → AllHeaded ys) → judged_append x y ≡ Good hs → AllHeaded hs
    go (Good xs) p (Good ys) q k = subst AllHeaded (let z : Good (xs ++ ys) ≡ Good hs = k in let s : xs ++ ys ≡ hs = cc in s) (headed-append xs ys (assumed-headed names t xs p) (q ys refl))
    go (Good xs) p (Bad f) q k = absurd (let z : Bad f ≡ Good hs = k in cc)
    go (Bad f) p y q k = absurd (let z : Bad f ≡ Good hs = k in cc)

list-headed : (names : ℕ) (o : Option (List Term)) (hs : List Assumption) → clauses_of_list names o ≡ Good hs → AllHeaded hs
list-headed names None hs e = absurd (let z : Bad NotGoal ≡ Good hs = e in cc)
list-headed names (Some ts) hs e = items-headed names ts hs e

first-headed : (store cs : List Constraint) → Every (IsOfStore store) cs → AllHeaded (first_assumptions cs)
first-headed store [] w = tt
first-headed store (c ∷ cs) w = w.0.1

body-headed : (o : Option ℕ) (names : ℕ) (value : Term → Term) (store cs : List Constraint) (hs : List Assumption) → Every (IsOfStore store) cs → body_assumptions o names value cs ≡ Good hs → AllHeaded hs
body-headed None names value store cs hs w e = subst AllHeaded (let z : Good (first_assumptions cs) ≡ Good hs = e in let k : first_assumptions cs ≡ hs = cc in k) (first-headed store cs w)
body-headed (Some v) names value store cs hs w e = list-headed names (items_of (value (At (Var v)))) hs e

module _ (b : Branch) where
  -- of one tuple
  instance-found : (place : ℕ) (r : Rule) (cs : List Constraint) (f : Firing) → AreOfStore b.store cs → rule_instance unify b place r cs ≡ Some (Good f) → IsFound b f
  instance-found place r cs f w e = admits (is_fired pair b.fired) refl (fit_heads (heads_of r) cs) e
    where
      pair : Fired
      pair = record { rule = place; constraints = map (λ c. c.number) cs }

      made : (names next : ℕ) (value : Term → Term) (hs : List Assumption) → is_fired pair b.fired ≡ false → AllHeaded hs → IsFound b (firing r names next pair value hs)
      made names next value hs new headed = record {
        not_yet = new;
        there = kept-every (λ n. has_number b.store n ≡ true) r.kept (map (λ c. c.number) cs) (every-mapped (λ n. has_number b.store n ≡ true) (λ c. c.number) cs (every-weaker (IsOfStore b.store) (λ c. has_number b.store c.number ≡ true) (λ c u. u.0) cs w.0));
        differ = kept-differ r.kept (map (λ c. c.number) cs) (numbers-differ cs w.1);
        headed = headed;
      }

      judges : (names next : ℕ) (value : Term → Term) (j : Judged (List Assumption)) → body_assumptions r.body_context names value cs ≡ j → is_fired pair b.fired ≡ false
          → judged_map (firing r names next pair value) j ≡ Good f → IsFound b f
      judges names next value (Good hs) p new k =
          subst (IsFound b) (let z : Good (firing r names next pair value hs) ≡ Good f = k in let s : firing r names next pair value hs ≡ f = cc in s)
          (made names next value hs new (body-headed r.body_context names value b.store cs hs w.0 p))
      judges names next value (Bad g) p new k = absurd (let z : Bad g ≡ Good f = k in cc)

      tests : (names next : ℕ) (value : Term → Term) (x : Bool) → is_fired pair b.fired ≡ false
          → cond x (Some (judged_map (firing r names next pair value) (body_assumptions r.body_context names value cs))) None ≡ Some (Good f) → IsFound b f
      tests names next value true new k = judges names next value (body_assumptions r.body_context names value cs) refl new
          (let z : Some (judged_map (firing r names next pair value) (body_assumptions r.body_context names value cs)) ≡ Some (Good f) = k in cc)
      tests names next value false new k = absurd (let z : None ≡ Some (Good f) = k in cc)

      matches : (names : ℕ) (a : Answer) → is_fired pair b.fired ≡ false → after_matching r names b.next_var pair cs a ≡ Some (Good f) → IsFound b f
      matches names (Solved q) new k = tests names q.next_var (matched_value names b.next_var q.bindings) (list_all (λ t. holds (matched_value names b.next_var q.bindings t)) r.tests) new k
      matches names (Clashed knot) new k = absurd (let z : None ≡ Some (Good f) = k in cc)
      matches names (Faulted g) new k = absurd (let z : Some (Bad (of_unification g)) ≡ Some (Good f) = k in cc)

      aligns : (o : Option Joint) → is_fired pair b.fired ≡ false → matched_at unify b.next_var r pair cs o ≡ Some (Good f) → IsFound b f
      aligns None new k = absurd (let z : None ≡ Some (Good f) = k in cc)
      aligns (Some j) new k = matches j.names _ new k

      admits : (x : Bool) → is_fired pair b.fired ≡ x → (y : Bool) → admitted unify b.next_var r pair cs (not x && y) ≡ Some (Good f) → IsFound b f
      admits true p y k = absurd (let z : None ≡ Some (Good f) = k in cc)
      admits false p false k = absurd (let z : None ≡ Some (Good f) = k in cc)
      admits false p true k = aligns (joint r.pairs cs) p k

  tuple-found : (place : ℕ) (r : Rule) (css : List (List Constraint)) (f : Firing) → Every (AreOfStore b.store) css → first_tuple unify b place r css ≡ Some (Good f) → IsFound b f
  tuple-found place r [] f w e = absurd (let z : ◌≡◌ {A = Option (Judged Firing)} None (Some (Good f)) = e in cc)
  tuple-found place r (cs ∷ css) f w e = go (rule_instance unify b place r cs) refl (λ k. tuple-found place r css f w.1 k) e
    where
      go : (o : Option (Judged Firing)) → rule_instance unify b place r cs ≡ o → (first_tuple unify b place r css ≡ Some (Good f) → IsFound b f) → or_later o (first_tuple unify b place r css) ≡ Some (Good f) → IsFound b f
      go (Some x) p later k = instance-found place r cs f w.0 (p ∙ k)
      go None p later k = later k

  -- of all rules
  pub firing-found : (place : ℕ) (rs : List Rule) (f : Firing) → Every (IsOfStore b.store) b.store → Apart b.store → first_firing unify b place rs ≡ Some (Good f) → IsFound b f
  firing-found place [] f w a e = absurd (let z : ◌≡◌ {A = Option (Judged Firing)} None (Some (Good f)) = e in cc)
  firing-found place (r ∷ rs) f w a e = go (first_tuple unify b place r (tuples (heads_of r) b.store)) refl (λ k. firing-found (suc place) rs f w a k) e
    where
      go : (o : Option (Judged Firing)) → first_tuple unify b place r (tuples (heads_of r) b.store) ≡ o → (first_firing unify b (suc place) rs ≡ Some (Good f) → IsFound b f)
          → or_later o (first_firing unify b (suc place) rs) ≡ Some (Good f) → IsFound b f
      go (Some x) p later k = tuple-found place r (tuples (heads_of r) b.store) f (all-tuples (heads_of r) b.store w a) (p ∙ k)
      go None p later k = later k
