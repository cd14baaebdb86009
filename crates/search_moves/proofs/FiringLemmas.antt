-- Rules that fire: what the store loses, and what a firing needs of the machine.
use Rattle.std.proofs.Common.{◌≡◌, ℕ, ◌<◌, Bool, true, false, cond, ◌||◌, ◌&&◌, not, nat_eq, List, [], ◌∷◌, ◌++◌, map, refl, sym, ap, ◌∙◌, subst, arith, ne_eqb, eq-eqb, eqb-true}
use Rattle.std.proofs.lemmas.List.{map-append}
use Rattle.std.specs.List.{list_any}
use Rattle.level_terms.specs.Graph.{Graph}
use Rattle.ref_terms.specs.search.Branch as branch
use Rattle.ref_terms.specs.search.RuleInstance.{is_fired, numbers_eq}
use Rattle.ref_terms.specs.search.Used.{Every}
use Rattle.ref_terms.proofs.search.TouchedLemmas.{every-weaker, every-mapped}
use Rattle.lp_resolve.proofs.SymbolPlaces.{any-map}
use Rattle.hyp_clause.specs.declared.hyp.Hyp.{Hyp}
use Rattle.hyp_clause.specs.Hyps.{assumption_in}
use Rattle.hyp_clause.specs.Headed.{AllHeaded}
use Rattle.hyp_context.specs.Contexts.{AllWithinDepth}
use Rattle.suspend.specs.declared.constraint.Constraint.{Constraint}
use Rattle.suspend.specs.declared.constraint.Fired.{Fired}
use Rattle.suspend.specs.Store.{leaves, fires, stored, firings, without, has_fired, IsAscending}
use Rattle.sequent_rules.specs.declared.firing.Firing.{Firing}
use Rattle.sequent_rules.specs.Instances.{firing_in, IsFiringAt}
use Rattle.search_moves.specs.World.{World, AllUsable, AllConstraints, IsFine}
use Rattle.search_moves.specs.Reading.{constraint_in, firing_of, branch_in}
use Rattle.search_moves.specs.Firing.{has_number, without_number, without_numbers, AllDiffer, AreRemovable, CanFire}
use Rattle.search_moves.specs.Machine.{Machine, branch_of}
use Rattle.search_moves.proofs.FoundLemmas.{every-append-left, Apart, Differs, IsOfStore, IsFound}

-- what a goal's assumptions are

usable-headed : (g : Graph) (d : ℕ) (hs : List Hyp) → AllUsable g d hs → AllHeaded (map (assumption_in g) hs)
usable-headed g d [] u = tt
usable-headed g d (h ∷ hs) u = (u.0.head, usable-headed g d hs u.1)

headed-usable : (g : Graph) (d : ℕ) (hs : List Hyp) → AllWithinDepth d hs → AllHeaded (map (assumption_in g) hs) → AllUsable g d hs
headed-usable g d [] u w = tt
headed-usable g d (h ∷ hs) u w = (record { scope = u.0; head = w.0 }, headed-usable g d hs u.1 w.1)

-- the stored constraints

or-right : (a b : Bool) → b ≡ true → (a || b) ≡ true
or-right true b e = refl
or-right false b e = e

have-numbers : (cs : List branch.Constraint) → Every (λ c. has_number cs c.number ≡ true) cs
have-numbers [] = tt
have-numbers (c ∷ cs) = (
  ap (λ b. b || has_number cs c.number) (eq-eqb c.number c.number refl),
  every-weaker (λ d. has_number cs d.number ≡ true) (λ d. has_number (c ∷ cs) d.number ≡ true) (λ d e. or-right (nat_eq d.number c.number) (has_number cs d.number) e) cs (have-numbers cs),
)

all-headed : (g : Graph) (es : List (ℕ × Constraint (List Hyp))) → AllConstraints g es → Every (λ c. AllHeaded c.assumptions) (map (constraint_in g) es)
all-headed g [] v = tt
all-headed g (e ∷ es) v = (usable-headed g e.1.names e.1.context v.0.context.usable, all-headed g es v.1)

pair-up : (P Q : branch.Constraint → Type 0) (cs : List branch.Constraint) → Every P cs → Every Q cs → Every (λ c. P c × Q c) cs
pair-up P Q [] u w = tt
pair-up P Q (c ∷ cs) u w = ((u.0, w.0), pair-up P Q cs u.1 w.1)

-- they are of the store, and no two have one number
pub all-of-store : (g : Graph) (es : List (ℕ × Constraint (List Hyp))) → AllConstraints g es → Every (IsOfStore (map (constraint_in g) es)) (map (constraint_in g) es)
all-of-store g es v = pair-up (λ c. has_number (map (constraint_in g) es) c.number ≡ true) (λ c. AllHeaded c.assumptions) (map (constraint_in g) es) (have-numbers (map (constraint_in g) es)) (all-headed g es v)

pub all-apart : (g : Graph) (es : List (ℕ × Constraint (List Hyp))) → IsAscending es → Apart (map (constraint_in g) es)
all-apart g [] w = tt
all-apart g (e ∷ es) w = (
  every-mapped (Differs (constraint_in g e)) (constraint_in g) es (every-weaker (λ x. e.0 < x.0) (λ x. nat_eq e.0 x.0 ≡ false) (λ x l. ne_eqb e.0 x.0 (λ k. omega (arith, l, k))) es w.0),
  all-apart g es w.1,
)

-- a number in the store and in the branch
pub stored-number : (g : Graph) (es : List (ℕ × Constraint (List Hyp))) (n : ℕ) → has_number (map (constraint_in g) es) n ≡ list_any (λ e. nat_eq n e.0) es
stored-number g es n = any-map (constraint_in g) (λ c. nat_eq n c.number) es

pub fired-as : (fs : List Fired) (f : Fired) → is_fired (firing_of f) (map firing_of fs) ≡ has_fired fs f
fired-as fs f = any-map firing_of (λ x. nat_eq f.rule x.rule && numbers_eq f.constraints.items x.constraints) fs

-- a constraint leaves

without-read : (g : Graph) (n : ℕ) (es : List (ℕ × Constraint (List Hyp))) → map (constraint_in g) (without n es) ≡ without_number n (map (constraint_in g) es)
without-read g n [] = refl
without-read g n (e ∷ es) = go (nat_eq e.0 n) (without-read g n es)
  where
    go : (b : Bool) → map (constraint_in g) (without n es) ≡ without_number n (map (constraint_in g) es)
        → map (constraint_in g) (cond (not b) (e ∷ without n es) (without n es)) ≡ cond (not b) (constraint_in g e ∷ without_number n (map (constraint_in g) es)) (without_number n (map (constraint_in g) es))
    go true k = k
    go false k = ap (λ (cs : List branch.Constraint). constraint_in g e ∷ cs) k

pub leave-reads : (w w' : World) (n first : ℕ) → w' ≡ record w { log = leaves n ∷ w.log } → branch_in w' first ≡ record (branch_in w first) { store = without_number n (branch_in w first).store }
leave-reads w w' n first e =
    ap (λ z. branch_in z first) e ∙ ap (λ (cs : List branch.Constraint). record (branch_in w first) { store = cs }) (without-read w.heap n (stored w.log))

-- a firing is noted

pub noted-fine : (w w' : World) (f : Fired) (first : ℕ) → w' ≡ record w { log = fires f ∷ w.log } → IsFine w first → IsFine w' first
noted-fine w w' f first e fine = subst (λ z. IsFine z first) (sym e) (record {
  frames = fine.frames;
  there = fine.there;
  query = fine.query;
  code = fine.code;
  constraints = fine.constraints;
  keyed = fine.keyed;
})

pub noted-reads : (w w' : World) (f : Fired) (first : ℕ) → w' ≡ record w { log = fires f ∷ w.log } → branch_in w' first ≡ record (branch_in w first) { fired = (branch_in w first).fired ++ firing_of f ∷ [] }
noted-reads w w' f first e =
    ap (λ z. branch_in z first) e ∙ ap (λ (fs : List branch.Fired). record (branch_in w first) { fired = fs }) (map-append firing_of (firings w.log) (f ∷ []))

-- constraints leave one after the other, the last first

-- with no more to take out
pub without-none : (cs : List branch.Constraint) → without_numbers [] cs ≡ cs
without-none [] = refl
without-none (c ∷ cs) = ap (λ (xs : List branch.Constraint). c ∷ xs) (without-none cs)

either-out : (m n : ℕ) (ns : List ℕ) → list_any (nat_eq m) (ns ++ n ∷ []) ≡ (nat_eq m n || list_any (nat_eq m) ns)
either-out m n [] = refl
either-out m n (k ∷ ns) = ap (λ b. nat_eq m k || b) (either-out m n ns) ∙ swap (nat_eq m k) (nat_eq m n) (list_any (nat_eq m) ns)
  where
    swap : (a b c : Bool) → (a || (b || c)) ≡ (b || (a || c))
    swap true true c = refl
    swap true false c = refl
    swap false b c = refl

-- the last one first
pub without-last : (ns : List ℕ) (n : ℕ) (cs : List branch.Constraint) → without_numbers (ns ++ n ∷ []) cs ≡ without_numbers ns (without_number n cs)
without-last ns n [] = refl
without-last ns n (c ∷ cs) =
    ap (λ b. cond (not b) (c ∷ without_numbers (ns ++ n ∷ []) cs) (without_numbers (ns ++ n ∷ []) cs)) (either-out c.number n ns)
    ∙ go (nat_eq c.number n) (list_any (nat_eq c.number) ns) refl (without-last ns n cs)
  where
    go : (a b : Bool) → list_any (nat_eq c.number) ns ≡ b → without_numbers (ns ++ n ∷ []) cs ≡ without_numbers ns (without_number n cs)
        → cond (not (a || b)) (c ∷ without_numbers (ns ++ n ∷ []) cs) (without_numbers (ns ++ n ∷ []) cs) ≡ without_numbers ns (cond (not a) (c ∷ without_number n cs) (without_number n cs))
    go true b e k = k
    go false b e k =
        ap (λ (xs : List branch.Constraint). cond (not b) (c ∷ xs) xs) k
        ∙ ap (λ x. cond (not x) (c ∷ without_numbers ns (without_number n cs)) (without_numbers ns (without_number n cs))) (sym e)

-- another one is still there
still-there : (m n : ℕ) (cs : List branch.Constraint) → nat_eq m n ≡ false → has_number (without_number n cs) m ≡ has_number cs m
still-there m n [] e = refl
still-there m n (c ∷ cs) e = go (nat_eq c.number n) refl (still-there m n cs e)
  where
    go : (b : Bool) → nat_eq c.number n ≡ b → has_number (without_number n cs) m ≡ has_number cs m → has_number (cond (not b) (c ∷ without_number n cs) (without_number n cs)) m ≡ has_number (c ∷ cs) m
    go true p k = k ∙ sym (ap (λ b. b || has_number cs m) (ap (nat_eq m) (eqb-true c.number n p) ∙ e))
    go false p k = ap (λ b. nat_eq m c.number || b) k

differ-left : (ns : List ℕ) (n : ℕ) → AllDiffer (ns ++ n ∷ []) → AllDiffer ns × Every (λ m. nat_eq m n ≡ false) ns
differ-left [] n w = (tt, tt)
differ-left (k ∷ ns) n w =
    let more = differ-left ns n w.1 in
    ((every-append-left (λ m. nat_eq k m ≡ false) ns (n ∷ []) w.0, more.0), (last ns w.0, more.1))
  where
    last : (ms : List ℕ) → Every (λ m. nat_eq k m ≡ false) (ms ++ n ∷ []) → nat_eq k n ≡ false
    last [] u = u.0
    last (m ∷ ms) u = last ms u.1

there-last : (cs : List branch.Constraint) (ns : List ℕ) (n : ℕ) → Every (λ m. has_number cs m ≡ true) (ns ++ n ∷ []) → has_number cs n ≡ true
there-last cs [] n u = u.0
there-last cs (m ∷ ns) n u = there-last cs ns n u.1

-- the last one can be taken out, and then the others
pub last-removable : (cs : List branch.Constraint) (ns : List ℕ) (n : ℕ) → AreRemovable cs (ns ++ n ∷ []) → has_number cs n ≡ true
last-removable cs ns n w = there-last cs ns n w.there

pub others-removable : (cs : List branch.Constraint) (ns : List ℕ) (n : ℕ) → AreRemovable cs (ns ++ n ∷ []) → AreRemovable (without_number n cs) ns
others-removable cs ns n w =
    let apart = differ-left ns n w.differ in
    record { there = go ns (every-append-left (λ m. has_number cs m ≡ true) ns (n ∷ []) w.there) apart.1; differ = apart.0 }
  where
    go : (ms : List ℕ) → Every (λ m. has_number cs m ≡ true) ms → Every (λ m. nat_eq m n ≡ false) ms → Every (λ m. has_number (without_number n cs) m ≡ true) ms
    go [] u e = tt
    go (m ∷ ms) u e = (still-there m n cs e.0 ∙ u.0, go ms u.1 e.1)

-- the firing that was found can be made
pub found-can-fire : (m : Machine) (f : Firing) → IsFound (branch_of m) (firing_in m.world.heap f) → IsFiringAt m.world.heap f → CanFire m f
found-can-fire m f found valid = record {
  not_yet = found.not_yet;
  removable = record { there = found.there; differ = found.differ };
  body = valid.body;
  context = record { valid = valid.context; usable = headed-usable m.world.heap f.names f.context valid.within found.headed };
}
