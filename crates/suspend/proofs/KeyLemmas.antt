-- Keys and what they read as, through whatever a call may change.
use Rattle.std.proofs.Common.{◌≡◌, ℕ, ◌+◌, ◌⊎◌, inl, inr, Bool, true, false, cond, ◌||◌, ◌&&◌, not, nat_eq, List, [], ◌∷◌, ◌++◌, map, length, refl, sym, ap, ap₂, ◌∙◌, subst, Some, arith}
use Rattle.std.specs.List.{list_any}
use Rattle.std.proofs.lemmas.Bool.{eqb-true, eqb-false}
use Rattle.std.proofs.lemmas.List.{length-append}
use Rattle.level_terms.specs.declared.node.Node.{Node}
use Rattle.level_terms.specs.declared.node.TermId.{TermId}
use Rattle.level_terms.specs.declared.node.Change.{Change}
use Rattle.level_terms.specs.Graph.{Graph, Assigned}
use Rattle.level_terms.specs.Reading.{read, assigned_term}
use Rattle.level_terms.specs.Sound.{IsSound}
use Rattle.level_terms.specs.Growth.{Grows}
use Rattle.level_terms.proofs.ReadingLemmas.{assignment_instantiates}
use Rattle.level_terms.proofs.MakerLemmas.{makers_keep_readings}
use Rattle.level_terms.proofs.ValidLemmas as validity
use Rattle.ref_terms.specs.terms.Term.{Term, At, Var}
use Rattle.ref_terms.specs.terms.Instance.{inst}
use Rattle.ref_terms.specs.search.Value.{is_flex}
use Rattle.ref_terms.specs.search.Waking.{heading, IsWatchedKey, IsQuiet}
use Rattle.ref_terms.proofs.search.WakingLemmas.{heading-stays, heading-renamed, heading-flex}
use Rattle.suspend.specs.Store.{has, has_row, moved_row, HasAllRows}
use Rattle.beta_fragment.specs.Names.{names}
use Rattle.suspend.specs.Keyed.{keys_read, awake_in, KeysValid, IsKeyed, Stirred}

quiet-none : (watched : ℕ → Bool) (ts : List Term) → IsQuiet watched ts → list_any (λ t. not (is_flex t)) ts ≡ false
quiet-none watched [] w = refl
quiet-none watched (t ∷ ts) w = ap (λ (b : Bool). not b || list_any (λ x. not (is_flex x)) ts) (heading-flex t w.0.0 w.0.1) ∙ quiet-none watched ts w.1

pub quiet-sleeps : (g : Graph) (watched : ℕ → Bool) (ks : List TermId) → IsQuiet watched (keys_read g ks) → awake_in g ks ≡ false
quiet-sleeps g watched ks w = quiet-none watched (keys_read g ks) w

pub quiet-more : (p q : ℕ → Bool) → ((v : ℕ) → p v ≡ true → q v ≡ true) → (ts : List Term) → IsQuiet p ts → IsQuiet q ts
quiet-more p q h [] u = tt
quiet-more p q h (t ∷ ts) u = ((u.0.0, u.0.1, h u.0.0 u.0.2), quiet-more p q h ts u.1)

pub keyed-more : (g : Graph) (rs more : List (ℕ × ℕ)) (ns later : List ℕ) (n depth : ℕ) (ks : List TermId) → HasAllRows rs more → (has ns n ≡ true → has later n ≡ true) → IsKeyed g rs ns n depth ks → IsKeyed g more later n depth ks
keyed-more g rs more ns later n depth ks a b u = (u.0, go u.1)
  where
    go : (has ns n ≡ true) ⊎ IsQuiet (λ v. has_row rs v n) (keys_read g ks) → (has later n ≡ true) ⊎ IsQuiet (λ v. has_row more v n) (keys_read g ks)
    go (inl z) = inl (b z)
    go (inr z) = inr (quiet-more (λ v. has_row rs v n) (λ v. has_row more v n) (λ v e. a v n e) (keys_read g ks) z)

-- a variable that heads a key and gets no value heads it still
apart-of : (watched : ℕ → Bool) (v w : ℕ) → watched v ≡ false → watched w ≡ true → nat_eq v w ≡ false
apart-of watched v w e f = go (nat_eq v w) refl
  where
    go : (b : Bool) → nat_eq v w ≡ b → nat_eq v w ≡ false
    go true k = absurd (let z : false ≡ true = sym e ∙ ap watched (eqb-true v w k) ∙ f in cc)
    go false k = k

keys-apart : (g : Graph) (a : Assigned) (watched : ℕ → Bool) → watched a.variable ≡ false → (ks : List TermId) → IsQuiet watched (keys_read g ks) → IsQuiet watched (keys_read (record g { assigned = a ∷ g.assigned }) ks)
keys-apart g a watched e [] w = tt
keys-apart g a watched e (k ∷ ks) w = (
  (w.0.0, ap heading (assignment_instantiates g a k.index names) ∙ heading-stays a.variable w.0.0 (assigned_term g a) (read g k.index names) w.0.1 (apart-of watched a.variable w.0.0 e w.0.2), w.0.2),
  keys-apart g a watched e ks w.1,
)

-- a variable got a value, and what has a row with it is to be looked at
pub keyed-assigned : (g : Graph) (a : Assigned) (rs : List (ℕ × ℕ)) (ns : List ℕ) (n depth : ℕ) (ks : List TermId) → Stirred rs ns a.variable → IsKeyed g rs ns n depth ks → IsKeyed (record g { assigned = a ∷ g.assigned }) rs ns n depth ks
keyed-assigned g a rs ns n depth ks stirred u = (u.0, go (has ns n) refl u.1)
  where
    unwatched : has ns n ≡ false → has_row rs a.variable n ≡ false
    unwatched e = at (has_row rs a.variable n) refl
      where
        at : (b : Bool) → has_row rs a.variable n ≡ b → has_row rs a.variable n ≡ false
        at true k = absurd (let z : true ≡ false = sym (stirred n k) ∙ e in cc)
        at false k = k

    go : (b : Bool) → has ns n ≡ b → (has ns n ≡ true) ⊎ IsQuiet (λ v. has_row rs v n) (keys_read g ks) → (has ns n ≡ true) ⊎ IsQuiet (λ v. has_row rs v n) (keys_read (record g { assigned = a ∷ g.assigned }) ks)
    go true k z = inl k
    go false k (inl z) = inl z
    go false k (inr z) = inr (keys-apart g a (λ v. has_row rs v n) (unwatched k) ks z)

-- the rows of a variable that became another one are that one's, and the others stay
moved-first : (v u n : ℕ) (rs : List (ℕ × ℕ)) → has_row rs v n ≡ true → has_row (map (moved_row v u) rs) u n ≡ true
moved-first v u n [] e = e
moved-first v u n (r ∷ rs) e = go (nat_eq v r.0) refl (nat_eq n r.1) refl (moved-first v u n rs)
  where
    itself : nat_eq u u ≡ true
    itself = at (nat_eq u u) refl
      where
        at : (b : Bool) → nat_eq u u ≡ b → nat_eq u u ≡ true
        at true k = k
        at false k = absurd (eqb-false u u k refl)

    other-way : nat_eq v r.0 ≡ true → nat_eq r.0 v ≡ true
    other-way k = ap (λ (x : ℕ). nat_eq r.0 x) (eqb-true v r.0 k) ∙ at (nat_eq r.0 r.0) refl
      where
        at : (b : Bool) → nat_eq r.0 r.0 ≡ b → nat_eq r.0 r.0 ≡ true
        at true z = z
        at false z = absurd (eqb-false r.0 r.0 z refl)

    here : (m : ℕ × ℕ) → m ≡ (u, r.1) → nat_eq n r.1 ≡ true → has_row (m ∷ map (moved_row v u) rs) u n ≡ true
    here m k q = ap (λ (x : ℕ × ℕ). has_row (x ∷ map (moved_row v u) rs) u n) k ∙ ap₂ (λ (a b : Bool). (a && b) || has_row (map (moved_row v u) rs) u n) itself q

    later : has_row (map (moved_row v u) rs) u n ≡ true → has_row (map (moved_row v u) (r ∷ rs)) u n ≡ true
    later k = at (nat_eq u (moved_row v u r).0 && nat_eq n (moved_row v u r).1)
      where
        at : (b : Bool) → (b || has_row (map (moved_row v u) rs) u n) ≡ true
        at true = refl
        at false = k

    go : (a : Bool) → nat_eq v r.0 ≡ a → (b : Bool) → nat_eq n r.1 ≡ b → (has_row rs v n ≡ true → has_row (map (moved_row v u) rs) u n ≡ true) → has_row (map (moved_row v u) (r ∷ rs)) u n ≡ true
    go true p true q rest = here (moved_row v u r) (ap (λ (b : Bool). cond b (u, r.1) r) (other-way p)) q
    go true p false q rest = later (rest (sym (ap₂ (λ (a b : Bool). (a && b) || has_row rs v n) p q) ∙ e))
    go false p b q rest = later (rest (sym (ap (λ (a : Bool). (a && nat_eq n r.1) || has_row rs v n) p) ∙ e))

moved-other : (v u w n : ℕ) → nat_eq v w ≡ false → (rs : List (ℕ × ℕ)) → has_row rs w n ≡ true → has_row (map (moved_row v u) rs) w n ≡ true
moved-other v u w n apart [] e = e
moved-other v u w n apart (r ∷ rs) e = go (nat_eq w r.0 && nat_eq n r.1) refl (moved-other v u w n apart rs)
  where
    first : (a b : Bool) → (a && b) ≡ true → a ≡ true
    first true b k = refl
    first false b k = k

    stays : nat_eq w r.0 ≡ true → moved_row v u r ≡ r
    stays k = at (nat_eq r.0 v) refl
      where
        at : (b : Bool) → nat_eq r.0 v ≡ b → cond b (u, r.1) r ≡ r
        at true z = absurd (eqb-false v w apart (sym (eqb-true r.0 v z) ∙ sym (eqb-true w r.0 k)))
        at false z = refl

    later : has_row (map (moved_row v u) rs) w n ≡ true → has_row (map (moved_row v u) (r ∷ rs)) w n ≡ true
    later k = at (nat_eq w (moved_row v u r).0 && nat_eq n (moved_row v u r).1)
      where
        at : (b : Bool) → (b || has_row (map (moved_row v u) rs) w n) ≡ true
        at true = refl
        at false = k

    go : (b : Bool) → (nat_eq w r.0 && nat_eq n r.1) ≡ b → (has_row rs w n ≡ true → has_row (map (moved_row v u) rs) w n ≡ true) → has_row (map (moved_row v u) (r ∷ rs)) w n ≡ true
    go true p rest = ap (λ (x : ℕ × ℕ). has_row (x ∷ map (moved_row v u) rs) w n) (stays (first (nat_eq w r.0) (nat_eq n r.1) p)) ∙ ap (λ (b : Bool). b || has_row (map (moved_row v u) rs) w n) p
    go false p rest = later (rest (sym (ap (λ (b : Bool). b || has_row rs w n) p) ∙ e))

-- a variable got another one as its value
module _ (g : Graph) (a : Assigned) (u : ℕ) (rs : List (ℕ × ℕ)) (n : ℕ) (value : assigned_term g a ≡ At (Var u)) where
  key-renamed : (t : ℕ) → IsWatchedKey (λ v. has_row rs v n) (read g t names) → IsWatchedKey (λ v. has_row (map (moved_row a.variable u) rs) v n) (read (record g { assigned = a ∷ g.assigned }) t names)
  key-renamed t w = go (nat_eq a.variable w.0) refl
    where
      instance : read (record g { assigned = a ∷ g.assigned }) t names ≡ inst a.variable (At (Var u)) (read g t names)
      instance = assignment_instantiates g a t names ∙ ap (λ (x : Term). inst a.variable x (read g t names)) value

      go : (b : Bool) → nat_eq a.variable w.0 ≡ b → IsWatchedKey (λ v. has_row (map (moved_row a.variable u) rs) v n) (read (record g { assigned = a ∷ g.assigned }) t names)
      go true k =
          let same : a.variable ≡ w.0 = eqb-true a.variable w.0 k in
          (u, ap heading instance ∙ heading-renamed a.variable u (read g t names) (w.1 ∙ ap (λ (x : ℕ). Some x) (sym same)), moved-first a.variable u n rs (ap (λ (x : ℕ). has_row rs x n) same ∙ w.2))
      go false k = (w.0, ap heading instance ∙ heading-stays a.variable w.0 (At (Var u)) (read g t names) w.1 k, moved-other a.variable u w.0 n k rs w.2)

  keys-renamed : (ks : List TermId) → IsQuiet (λ v. has_row rs v n) (keys_read g ks) → IsQuiet (λ v. has_row (map (moved_row a.variable u) rs) v n) (keys_read (record g { assigned = a ∷ g.assigned }) ks)
  keys-renamed [] w = tt
  keys-renamed (k ∷ ks) w = (key-renamed k.index w.0, keys-renamed ks w.1)

pub keyed-renamed : (g : Graph) (a : Assigned) (u : ℕ) (rs : List (ℕ × ℕ)) (ns : List ℕ) (n depth : ℕ) (ks : List TermId) → assigned_term g a ≡ At (Var u)
    → IsKeyed g rs ns n depth ks → IsKeyed (record g { assigned = a ∷ g.assigned }) (map (moved_row a.variable u) rs) ns n depth ks
keyed-renamed g a u rs ns n depth ks value w = (w.0, go w.1)
  where
    go : (has ns n ≡ true) ⊎ IsQuiet (λ v. has_row rs v n) (keys_read g ks) → (has ns n ≡ true) ⊎ IsQuiet (λ v. has_row (map (moved_row a.variable u) rs) v n) (keys_read (record g { assigned = a ∷ g.assigned }) ks)
    go (inl z) = inl z
    go (inr z) = inr (keys-renamed g a u rs n value ks z)

-- nodes and variables were made
pub keys-valid : (g h : Graph) (s t : List Change) (sound : IsSound g) (w : Grows g h s t) (depth : ℕ) (ks : List TermId) → KeysValid g depth ks → KeysValid h depth ks
keys-valid g h s t sound w depth [] u = tt
keys-valid g h s t sound w depth (k ∷ ks) u =
    let size : length h.nodes ≡ length w.new_nodes + length g.nodes = ap length w.nodes ∙ length-append w.new_nodes g.nodes in
    let low = u.0.0 in
    ((omega arith, validity.growth_keeps_valid g h s t k.index depth sound w u.0.0 u.0.1), keys-valid g h s t sound w depth ks u.1)

quiet-made : (g : Graph) (new : List Node) (wider : List ℕ) (sound : IsSound g) (watched : ℕ → Bool) (depth : ℕ) (ks : List TermId) → KeysValid g depth ks → IsQuiet watched (keys_read g ks)
    → IsQuiet watched (keys_read (record { nodes = new ++ g.nodes; depths = g.depths ++ wider; assigned = g.assigned }) ks)
quiet-made g new wider sound watched depth [] low w = tt
quiet-made g new wider sound watched depth (k ∷ ks) low w =
    ((w.0.0, ap heading (makers_keep_readings g new wider k.index names sound low.0.0) ∙ w.0.1, w.0.2), quiet-made g new wider sound watched depth ks low.1 w.1)

pub keyed-begun : (g h : Graph) (s t : List Change) (rs : List (ℕ × ℕ)) (ns : List ℕ) (n depth : ℕ) (ks : List TermId) → IsSound g → (w : Grows g h s t) → IsKeyed g rs ns n depth ks → IsKeyed (record h { assigned = g.assigned }) rs ns n depth ks
keyed-begun g h s t rs ns n depth ks sound w u = (keys-valid g h s t sound w depth ks u.0, go u.1)
  where
    begun : record { nodes = w.new_nodes ++ g.nodes; depths = g.depths ++ w.new_depths; assigned = g.assigned } ≡ record h { assigned = g.assigned }
    begun = λ i. record { nodes = sym w.nodes i; depths = sym w.depths i; assigned = g.assigned }

    go : (has ns n ≡ true) ⊎ IsQuiet (λ v. has_row rs v n) (keys_read g ks) → (has ns n ≡ true) ⊎ IsQuiet (λ v. has_row rs v n) (keys_read (record h { assigned = g.assigned }) ks)
    go (inl z) = inl z
    go (inr z) = inr (subst (λ (x : Graph). IsQuiet (λ v. has_row rs v n) (keys_read x ks)) begun (quiet-made g w.new_nodes w.new_depths sound (λ v. has_row rs v n) depth ks u.0 z))
