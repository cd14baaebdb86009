-- Nodes with their levels moved.
use Rattle.std.proofs.Common.{◌≡◌, ℕ, suc, ◌<◌, ◌≤◌, ◌+◌, ◌-◌, ◌++◌, List, [], ◌∷◌, length, map, cond, nat_eq, nat_lt, Bool, true, false, Some, slice_index, refl, sym, ap, ap₂, ◌∙◌, arith, eqb-true, eq-eqb, ne_eqb, min, length-append}
use Rattle.std.specs.List.{list_all}
use Rattle.level_terms.specs.declared.node.Node.{Node}
use Rattle.level_terms.specs.declared.node.Node.TheVariants.{Level, Lam, App, Var}
use Rattle.level_terms.specs.declared.node.TermId.{TermId}
use Rattle.level_terms.specs.declared.node.VarId.{VarId}
use Rattle.level_terms.specs.declared.node.Change.{Change}
use Rattle.level_terms.specs.Graph.{Graph, Assigned, node_at, value_in}
use Rattle.level_terms.specs.Laws.{ArePlaces}
use Rattle.level_terms.specs.Sound.{IsSound}
use Rattle.level_terms.specs.Valid.{valid, IsValid}
use Rattle.level_terms.specs.Reading.{read, enter, variable_reads}
use Rattle.level_terms.specs.Growth.{Grows, changes_of}
use Rattle.level_terms.proofs.LocalLemmas.{and_left, and_right, readings_local}
use Rattle.level_terms.proofs.NodeLemmas.{nodes_read, value-valid}
use Rattle.level_terms.proofs.CoverLemmas.{places-enter}
use Rattle.level_terms.proofs.ValidLemmas.{nodes_valid, valid_deeper}
use Rattle.level_terms.proofs.GrowthLemmas.{changes-length}
use Rattle.ref_terms.specs.terms.Term as term
use Rattle.ref_terms.specs.terms.Term.{Term, At}
use Rattle.ref_terms.specs.terms.Index.{shift}
use Rattle.ref_terms.specs.terms.Eta.{lam}
use Rattle.ref_terms.specs.unification.Spine.{apply_all}
use Rattle.beta_fragment.specs.Names.{AllBelow}
use Rattle.beta_fragment.specs.HeadForm.{AllValidAt}
use Rattle.level_terms.specs.Values.{Value, IsLamOf, IsAppOf, IsLevelOf}
use Rattle.beta_fragment.specs.Moves.{Moves, IsMove, Plan, naming, Does, moved, moved_level}
use Rattle.beta_fragment.proofs.EnterLemmas.{body-valid}
use Rattle.level_terms.proofs.MakeLemmas.{and_both, below_true}

-- a node is what it was before the heap grew
node_at-older : (new nodes : List Node) (t : ℕ) → t < length nodes → node_at (new ++ nodes) t ≡ node_at nodes t
node_at-older [] nodes t h = refl
node_at-older (n ∷ new) nodes t h =
    let not_here : nat_eq (length (new ++ nodes)) t ≡ false = ne_eqb (length (new ++ nodes)) t (omega (arith, length-append new nodes)) in
    rw not_here (node_at-older new nodes t h)

pub node-before : (g h : Graph) → Grows g h [] [] → (t : ℕ) (n : Node) → t < length g.nodes → node_at h.nodes t ≡ Some n → node_at g.nodes t ≡ Some n
node-before g h w t n k e = sym (ap (λ (ns : List Node). node_at ns t) w.nodes ∙ node_at-older w.new_nodes g.nodes t k) ∙ e

pub node-after : (g h : Graph) → Grows g h [] [] → (t : ℕ) → t < length g.nodes → node_at h.nodes t ≡ node_at g.nodes t
node-after g h w t k = ap (λ (ns : List Node). node_at ns t) w.nodes ∙ node_at-older w.new_nodes g.nodes t k

none-new : (bs : List Assigned) → ◌≡◌ {A = List Change} [] ([] ++ changes_of bs) → bs ≡ []
none-new [] e = refl
none-new (b ∷ bs) e = absurd (let k : 0 ≡ suc (length bs) = ap length e ∙ changes-length (b ∷ bs) in omega (arith, k))

pub assigned-before : (g h : Graph) → Grows g h [] [] → (v : ℕ) → value_in h.assigned v ≡ value_in g.assigned v
assigned-before g h w v = ap (λ (bs : List Assigned). value_in bs v) (w.assigned ∙ ap (λ (bs : List Assigned). bs ++ g.assigned) (none-new w.new_assigned w.trail))

-- the levels stand for places after they are moved
pub moved-places : (ns : List ℕ) (base to : ℕ) (env : ℕ → Term) → ArePlaces env → ArePlaces (moved ns base to env)
moved-places ns base to env p i = p (moved_level ns base to i)

pub below_false : (i b : ℕ) → b ≤ i → nat_lt i b ≡ false
below_false i b h = grind (arith, h)

pub below_from : (i b : ℕ) → nat_lt i b ≡ true → i < b
below_from i b h = grind (arith, h)

pub above_from : (i b : ℕ) → nat_lt i b ≡ false → b ≤ i
above_from i b h = grind (arith, h)

neq_from : (a b : ℕ) → nat_eq a b ≡ false → a ≡ b → ⊥
neq_from a b e q = let k : nat_eq a b ≡ true = eq-eqb a b q in absurd (let z : true ≡ false = sym k ∙ e in cc)

-- a level below its depth goes below the moved depth
pub moved-below : (ns : List ℕ) (base to s l : ℕ) → AllBelow ns to → base ≤ length ns → base ≤ s → l < s → moved_level ns base to l < s - base + to
moved-below ns base to s l all few low h = go (nat_lt l base) refl
  where
    go : (b : Bool) → nat_lt l base ≡ b → cond b (slice_index ns l) (l - base + to) < s - base + to
    go true e = let k : l < base = below_from l base e in let q : slice_index ns l < to = all l (omega (arith, k, few)) in omega (arith, q)
    go false e = let k : base ≤ l = above_from l base e in omega (arith, k, h, low)

pub level-moves : (g : Graph) (ns : List ℕ) (to t base s l : ℕ) (x : Value) → IsSound g → AllBelow ns to → node_at g.nodes t ≡ Some (Level l) → IsValid g t s → base ≤ s → base ≤ length ns → IsLevelOf (moved_level ns base to l) x → Moves g ns to t base s x
level-moves g ns to t base s l x sound all e v low few w = record {
  term = λ env p. w.term env p ∙ sym (nodes_read g t (Level l) (moved ns base to env) sound (moved-places ns base to env p) e);
  holds = λ f q. let lt : moved_level ns base to l < s - base + to = moved-below ns base to s l all few low (below_from l s (sym (nodes_valid g t (Level l) s sound e) ∙ v)) in w.holds f (omega (arith, lt, q));
}

-- under an abstraction
moved-inner : (ns : List ℕ) (base to d : ℕ) → AllBelow ns to → base ≤ length ns → (env : ℕ → Term) (i : ℕ) → i < suc d →
    enter d (moved ns base to env) i ≡ moved ns (min base d) to (enter (d - min base d + to) env) i
moved-inner ns base to d all few env i h = go (nat_eq d i) refl
  where
    inner : ℕ
    inner = min base d

    other : (b c : Bool) → nat_lt i base ≡ b → nat_lt i (min base d) ≡ c → nat_eq d i ≡ false →
        shift (env (cond b (slice_index ns i) (i - base + to))) ≡ enter (d - min base d + to) env (cond c (slice_index ns i) (i - min base d + to))
    other true true e f n =
        let k : i < base = below_from i base e in
        let q : slice_index ns i < to = all i (omega (arith, k, few)) in
        let no : nat_eq (d - min base d + to) (slice_index ns i) ≡ false = ne_eqb (d - min base d + to) (slice_index ns i) (omega (arith, q)) in
        rw no refl
    other true false e f n = absurd (let k : i < base = below_from i base e in let q : min base d ≤ i = above_from i (min base d) f in let r : d ≡ i → ⊥ = neq_from d i n in omega (arith, k, q, r, h))
    other false true e f n = absurd (let k : base ≤ i = above_from i base e in let q : i < min base d = below_from i (min base d) f in omega (arith, k, q))
    other false false e f n =
        let k : base ≤ i = above_from i base e in
        let r : d ≡ i → ⊥ = neq_from d i n in
        let no : nat_eq (d - min base d + to) (i - min base d + to) ≡ false = ne_eqb (d - min base d + to) (i - min base d + to) (omega (arith, k, r, h)) in
        let same : i - base + to ≡ i - min base d + to = omega (arith, k, r, h) in
        rw no (ap (λ j. shift (env j)) same)

    go : (b : Bool) → nat_eq d i ≡ b → cond b (At (term.Bound 0)) (shift (moved ns base to env i)) ≡ moved ns (min base d) to (enter (d - min base d + to) env) i
    go true e =
        let same : d ≡ i = eqb-true d i e in
        let far : nat_lt d (min base d) ≡ false = below_false d (min base d) (omega arith) in
        let here : nat_eq (d - min base d + to) (d - min base d + to) ≡ true = eq-eqb (d - min base d + to) (d - min base d + to) refl in
        sym (ap (λ b. cond b (At (term.Bound 0)) (shift (env (d - min base d + to)))) here) ∙ ap (λ b. enter (d - min base d + to) env (cond b (slice_index ns d) (d - min base d + to))) (sym far) ∙ ap (moved ns (min base d) to (enter (d - min base d + to) env)) same
    go false e = other (nat_lt i base) (nat_lt i (min base d)) refl refl e

pub lam-moves : (g : Graph) (ns : List ℕ) (to t base s d : ℕ) (b : TermId) (y x : Value) → IsSound g → AllBelow ns to → node_at g.nodes t ≡ Some (Lam d b) → IsValid g t s → base ≤ s → base ≤ length ns →
    Moves g ns to b.index (min base d) (suc d) y → IsLamOf (d - min base d + to) y x → Moves g ns to t base s x
lam-moves g ns to t base s d b y x sound all e v low few m w = record {
  term = λ env p. w.term env p
      ∙ ap lam (m.term (enter (d - min base d + to) env) (places-enter (d - min base d + to) env p)
      ∙ sym (readings_local g b.index (suc d) (enter d (moved ns base to env)) (moved ns (min base d) to (enter (d - min base d + to) env)) (body-valid g sound t d b s e v) (moved-inner ns base to d all few env)))
      ∙ sym (nodes_read g t (Lam d b) (moved ns base to env) sound (moved-places ns base to env p) e);
  holds = λ f q.
      let deep : d < suc s = below_from d (suc s) (and_left _ _ (sym (nodes_valid g t (Lam d b) s sound e) ∙ v)) in
      w.holds (m.holds (d - min base d + to + 1) (omega arith)) f (omega (arith, deep, low, q));
}

-- the parts of an application
abbrev pub AllMove : Graph → Plan → (base s : ℕ) → List TermId → List Value → Type 0
AllMove g plan base s [] [] = Unit {0}
AllMove g plan base s (t ∷ ts) (x ∷ xs) = Does g plan t.index base s x × AllMove g plan base s ts xs
AllMove g plan base s _ _ = ⊥

terms-move : (g : Graph) (ns : List ℕ) (to base s : ℕ) (ts : List TermId) (xs : List Value) → AllMove g (naming ns to) base s ts xs → (env : ℕ → Term) → ArePlaces env →
    map (λ (y : Value). y.term env) xs ≡ map (λ t. read g t.index (moved ns base to env)) ts
terms-move g ns to base s [] [] w env p = refl
terms-move g ns to base s (t ∷ ts) [] w env p = absurd w
terms-move g ns to base s [] (x ∷ xs) w env p = absurd w
terms-move g ns to base s (t ∷ ts) (x ∷ xs) w env p = ap₂ (λ (y : Term) (ys : List Term). y ∷ ys) (w.0.term env p) (terms-move g ns to base s ts xs w.1 env p)

all-hold : (g : Graph) (ns : List ℕ) (to base s : ℕ) (ts : List TermId) (xs : List Value) → AllMove g (naming ns to) base s ts xs → (f : ℕ) → s - base + to ≤ f → list_all (λ (y : Value). y.holds f) xs ≡ true
all-hold g ns to base s [] [] w f q = refl
all-hold g ns to base s (t ∷ ts) [] w f q = absurd w
all-hold g ns to base s [] (x ∷ xs) w f q = absurd w
all-hold g ns to base s (t ∷ ts) (x ∷ xs) w f q = and_both (x.holds f) _ (w.0.holds f q) (all-hold g ns to base s ts xs w.1 f q)

pub app-moves : (g : Graph) (ns : List ℕ) (to t base s : ℕ) (k : TermId) (ts : List TermId) (h x : Value) (xs : List Value) → IsSound g → node_at g.nodes t ≡ Some (App k ts) →
    Moves g ns to k.index base s h → AllMove g (naming ns to) base s ts xs → IsAppOf h xs x → Moves g ns to t base s x
app-moves g ns to t base s k ts h x xs sound e m ms w = record {
  term = λ env p. w.term env p
      ∙ ap₂ apply_all (m.term env p) (terms-move g ns to base s ts xs ms env p)
      ∙ sym (nodes_read g t (App k ts) (moved ns base to env) sound (moved-places ns base to env p) e);
  holds = λ f q. w.holds f (m.holds f q) (all-hold g ns to base s ts xs ms f q);
}

-- the parts of a valid application are valid
parts-valid : (g : Graph) (s : ℕ) (ts : List TermId) → list_all (λ (f : ℕ → Bool). f s) (map (λ t. valid g.nodes g.depths t.index) ts) ≡ true → AllValidAt g ts s
parts-valid g s [] h = tt
parts-valid g s (t ∷ ts) h = (and_left _ _ h, parts-valid g s ts (and_right _ _ h))

pub app-valid : (g : Graph) (t s : ℕ) (k : TermId) (ts : List TermId) → IsSound g → node_at g.nodes t ≡ Some (App k ts) → IsValid g t s → IsValid g k.index s × AllValidAt g ts s
app-valid g t s k ts sound e v = let both = sym (nodes_valid g t (App k ts) s sound e) ∙ v in (and_left _ _ both, parts-valid g s ts (and_right _ _ both))

-- a variable that has a value
pub value-moves : (g : Graph) (ns : List ℕ) (to t base s value : ℕ) (v : VarId) (x : Value) → IsSound g → node_at g.nodes t ≡ Some (Var v) → value_in g.assigned v.index ≡ Some value → IsValid g t s → base ≤ s → base ≤ length ns →
    Moves g ns to value (min base (slice_index g.depths v.index)) (slice_index g.depths v.index) x → Moves g ns to t base s x
value-moves g ns to t base s value v x sound e f valid low few m = record {
  term = λ env p. m.term env p
      ∙ sym (readings_local g value (slice_index g.depths v.index) (moved ns base to env) (moved ns (min base (slice_index g.depths v.index)) to env) (value-valid g.nodes g.depths g.assigned sound.valid v.index value f) (same env))
      ∙ sym (nodes_read g t (Var v) (moved ns base to env) sound (moved-places ns base to env p) e ∙ ap (λ o. variable_reads g v.index o (moved ns base to env)) f);
  holds = λ d q.
      let deep : slice_index g.depths v.index < suc s = below_from (slice_index g.depths v.index) (suc s) (sym (nodes_valid g t (Var v) s sound e) ∙ valid) in
      m.holds d (omega (arith, deep, low, q));
}
  where
    same : (env : ℕ → Term) (i : ℕ) → i < slice_index g.depths v.index → moved ns base to env i ≡ moved ns (min base (slice_index g.depths v.index)) to env i
    same env i k = ap env (go (nat_lt i base) (nat_lt i (min base (slice_index g.depths v.index))) refl refl)
      where
        go : (b c : Bool) → nat_lt i base ≡ b → nat_lt i (min base (slice_index g.depths v.index)) ≡ c → cond b (slice_index ns i) (i - base + to) ≡ cond c (slice_index ns i) (i - min base (slice_index g.depths v.index) + to)
        go true true q r = refl
        go false false q r = let l : base ≤ i = above_from i base q in omega (arith, l, k)
        go true false q r = absurd (let l : i < base = below_from i base q in let z : min base (slice_index g.depths v.index) ≤ i = above_from i (min base (slice_index g.depths v.index)) r in omega (arith, l, z, k))
        go false true q r = absurd (let l : base ≤ i = above_from i base q in let z : i < min base (slice_index g.depths v.index) = below_from i (min base (slice_index g.depths v.index)) r in omega (arith, l, z))

-- the node of a level
-- a node that has no moved level
pub kept-moves : (g : Graph) (ns : List ℕ) (fixed to t base s k : ℕ) (x : Value) → IsMove ns fixed to → IsValid g t k → k ≤ fixed → k ≤ base → x.term ≡ read g t → x.holds ≡ valid g.nodes g.depths t → Moves g ns to t base s x
kept-moves g ns fixed to t base s k x move v f b e h = record {
  term = λ env p. ap (λ r. r env) e ∙ readings_local g t k env (moved ns base to env) v (same env);
  holds = λ d q. ap (λ r. r d) h ∙ valid_deeper g t k d v (let low = move.low in omega (arith, f, low, q));
}
  where
    same : (env : ℕ → Term) (i : ℕ) → i < k → env i ≡ moved ns base to env i
    same env i l = ap env (sym (move.stay i (omega (arith, l, f))) ∙ ap (λ c. cond c (slice_index ns i) (i - base + to)) (sym (below_true i base (omega (arith, l, b)))))
