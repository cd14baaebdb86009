-- A tree of nodes, each with the earlier of its children's entries.
use Rattle.std.proofs.Common.{◌≡◌, ◌≢◌, ◌⊎◌, ℕ, ◌+◌, ◌*◌, ◌/◌, ◌-◌, ◌<◌, ◌≤◌, List, length, get_or, set, drop, arith, sym, ◌∙◌, ap, subst, inl, inr, refl, zero, suc, get_or-set_same, get_or-set_other, length-drop}
use Rattle.std.proofs.lemmas.List.{length-map, get_or-drop, get_or-map, drop-set-add, map-set}
use Rattle.std.proofs.lemmas.Bool.{cases_eq, cases_lt, cases_order}
use Rattle.std.proofs.lemmas.Bool.Decides.{nat_tests}
use Rattle.agenda.specs.declared.ranks.Entry.{Entry}
use Rattle.agenda.specs.inside.Ranks.{IsNoLater, IsFirst, IsInner, IsTree, earlier, node, ranks_of}

-- the earlier of two entries comes before both, and is one of them
pub earlier-left : (a b : Entry) → IsNoLater (earlier a b) a
earlier-left a b =
    elim (cases_order a.rank b.rank) [
      | inl same ↦ elim (cases_lt b.place a.place) [ inl less ↦ grind (arith, nat_tests) | inr more ↦ grind (arith, nat_tests) ]
      | inr apart ↦ elim apart [ inl less ↦ grind (arith, nat_tests) | inr more ↦ grind (arith, nat_tests) ]
    ]

pub earlier-right : (a b : Entry) → IsNoLater (earlier a b) b
earlier-right a b =
    elim (cases_order a.rank b.rank) [
      | inl same ↦ elim (cases_lt b.place a.place) [ inl less ↦ grind (arith, nat_tests) | inr more ↦ grind (arith, nat_tests) ]
      | inr apart ↦ elim apart [ inl less ↦ grind (arith, nat_tests) | inr more ↦ grind (arith, nat_tests) ]
    ]

pub earlier-either : (a b : Entry) → (earlier a b ≡ a) ⊎ (earlier a b ≡ b)
earlier-either a b = grind (arith, nat_tests)

IsNoLater-trans : (a b c : Entry) → IsNoLater a b → IsNoLater b c → IsNoLater a c
IsNoLater-trans a b c p q = grind arith

-- a write at a node that is neither an inner node nor one of its children keeps it
pub IsInner-set_other : (nodes : List Entry) (k j : ℕ) (e : Entry) → 0 < j → j ≢ k → j ≢ k / 2 → IsInner nodes j → IsInner (set nodes k e) j
IsInner-set_other nodes k j e positive apart above here =
    let left : 2 * j ≢ k = λ same. above (omega (arith, same)) in
    let right : 2 * j + 1 ≢ k = λ same. above (omega (arith, same)) in
    let at_node : node (set nodes k e) j ≡ node nodes j = get_or-set_other nodes k j e (record { rank = 0; place = 0 }) apart in
    let at_left : node (set nodes k e) (2 * j) ≡ node nodes (2 * j) = get_or-set_other nodes k (2 * j) e (record { rank = 0; place = 0 }) left in
    let at_right : node (set nodes k e) (2 * j + 1) ≡ node nodes (2 * j + 1) = get_or-set_other nodes k (2 * j + 1) e (record { rank = 0; place = 0 }) right in
    cc

-- an inner node is as it must be once the earlier of its children's entries is written there
pub IsInner-set_same : (nodes : List Entry) (k : ℕ) (e : Entry) → 0 < k → k < length nodes
    → e ≡ earlier (node nodes (2 * k)) (node nodes (2 * k + 1)) → IsInner (set nodes k e) k
IsInner-set_same nodes k e positive within is =
    let left : 2 * k ≢ k = λ same. omega (arith, same) in
    let right : 2 * k + 1 ≢ k = λ same. omega (arith, same) in
    let at_node : node (set nodes k e) k ≡ e = get_or-set_same nodes k e (record { rank = 0; place = 0 }) within in
    let at_left : node (set nodes k e) (2 * k) ≡ node nodes (2 * k) = get_or-set_other nodes k (2 * k) e (record { rank = 0; place = 0 }) left in
    let at_right : node (set nodes k e) (2 * k + 1) ≡ node nodes (2 * k + 1) = get_or-set_other nodes k (2 * k + 1) e (record { rank = 0; place = 0 }) right in
    cc

-- one step of mending: the node is right from now on, and its parent alone may be wrong
pub mend-step : (nodes : List Entry) (places k : ℕ) (e : Entry) → length nodes ≡ places + places → 0 < k → k < places
    → ((j : ℕ) → 0 < j → j < places → j ≢ k → IsInner nodes j)
    → e ≡ earlier (node nodes (2 * k)) (node nodes (2 * k + 1))
    → (j : ℕ) → 0 < j → j < places → j ≢ k / 2 → IsInner (set nodes k e) j
mend-step nodes places k e size positive within others is j j_positive j_within above =
    elim (cases_eq j k) [
      | inl same ↦ let P : ℕ → Type 0 = λ n. IsInner (set nodes k e) n in
          subst P (sym same) (IsInner-set_same nodes k e positive (omega arith) is)
      | inr apart ↦ IsInner-set_other nodes k j e j_positive apart above (others j j_positive j_within apart)
    ]

-- the root comes before every node, by way of the parents
chain : (places : ℕ) (nodes : List Entry) → IsTree places nodes → (fuel k : ℕ) → k ≤ fuel → 0 < k → k < places + places → IsNoLater (node nodes 1) (node nodes k)
chain places nodes tree zero k below positive within = absurd (omega arith)
chain places nodes tree (suc fuel) k below positive within =
    elim (cases_eq k 1) [
      | inl same ↦ let P : ℕ → Type 0 = λ n. IsNoLater (node nodes 1) (node nodes n) in subst P (sym same) (inr (refl, omega arith))
      | inr apart ↦
          let up : IsNoLater (node nodes 1) (node nodes (k / 2)) = chain places nodes tree fuel (k / 2) (omega arith) (omega arith) (omega arith) in
          let is : IsInner nodes (k / 2) = tree.inner (k / 2) (omega arith) (omega arith) in
          let P : Entry → Type 0 = λ e. IsNoLater (node nodes 1) e in
          let from_up : IsNoLater (node nodes 1) (earlier (node nodes (2 * (k / 2))) (node nodes (2 * (k / 2) + 1))) = subst P is up in
          elim (cases_eq k (2 * (k / 2))) [
            | inl even ↦ let Q : ℕ → Type 0 = λ n. IsNoLater (node nodes 1) (node nodes n) in
                subst Q (sym even) (IsNoLater-trans _ _ _ from_up (earlier-left (node nodes (2 * (k / 2))) (node nodes (2 * (k / 2) + 1))))
            | inr uneven ↦ let Q : ℕ → Type 0 = λ n. IsNoLater (node nodes 1) (node nodes n) in
                let odd : 2 * (k / 2) + 1 ≡ k = omega arith in
                subst Q odd (IsNoLater-trans _ _ _ from_up (earlier-right (node nodes (2 * (k / 2))) (node nodes (2 * (k / 2) + 1))))
          ]
    ]

-- the entry stands at the leaf of its place
abbrev IsLeafs : ℕ → List Entry → Entry → Type 0
IsLeafs places nodes e = (e.place < places) × (node nodes (places + e.place) ≡ e)

-- every node's entry is a leaf's
leafs : (places : ℕ) (nodes : List Entry) → IsTree places nodes → (fuel k : ℕ) → places + places ≤ k + fuel → 0 < k → k < places + places → IsLeafs places nodes (node nodes k)
leafs places nodes tree zero k below positive within = absurd (omega arith)
leafs places nodes tree (suc fuel) k below positive within =
    elim (cases_lt k places) [
      | inl inside ↦
          let is : IsInner nodes k = tree.inner k positive inside in
          let P : Entry → Type 0 = λ e. IsLeafs places nodes e in
          let left : P (node nodes (2 * k)) = leafs places nodes tree fuel (2 * k) (omega arith) (omega arith) (omega arith) in
          let right : P (node nodes (2 * k + 1)) = leafs places nodes tree fuel (2 * k + 1) (omega arith) (omega arith) (omega arith) in
          elim (earlier-either (node nodes (2 * k)) (node nodes (2 * k + 1))) [
            | inl first ↦ subst P (sym (is ∙ first)) left
            | inr second ↦ subst P (sym (is ∙ second)) right
          ]
      | inr outside ↦
          let at : places + (k - places) ≡ k = omega arith in
          let Q : ℕ → Type 0 = λ n. (node nodes n).place ≡ k - places in
          let place : Q k = subst Q at (tree.leaves (k - places) (omega arith)) in
          let there : places + (node nodes k).place ≡ k = omega (arith, place, at) in
          (omega (arith, place), ap (node nodes) there)
    ]

-- the rank of a place is that of its leaf
pub rank-at : (places : ℕ) (nodes : List Entry) → length nodes ≡ places + places → (place d : ℕ) → place < places
    → get_or (ranks_of (drop places nodes)) place d ≡ (node nodes (places + place)).rank
rank-at places nodes size place d within =
    get_or-map (λ (e : Entry). e.rank) (drop places nodes) place (record { rank = 0; place = 0 }) d (omega (arith, length-drop places nodes))
    ∙ ap (λ (e : Entry). e.rank) (get_or-drop places nodes place (record { rank = 0; place = 0 }))

pub length-ranks : (places : ℕ) (nodes : List Entry) → length nodes ≡ places + places → length (ranks_of (drop places nodes)) ≡ places
length-ranks places nodes size = length-map (drop places nodes) (λ (e : Entry). e.rank) ∙ omega (arith, length-drop places nodes)

-- the root has the first entry
pub root-first : (places : ℕ) (nodes : List Entry) → IsTree places nodes → 0 < places → IsFirst (ranks_of (drop places nodes)) (node nodes 1)
root-first places nodes tree positive =
    let own : IsLeafs places nodes (node nodes 1) = leafs places nodes tree (places + places) 1 (omega arith) (omega arith) (omega arith) in
    record {
      within = omega (arith, length-ranks places nodes tree.size, own.0);
      rank = rank-at places nodes tree.size (node nodes 1).place 0 own.0 ∙ ap (λ (e : Entry). e.rank) own.1;
      least = λ place inside.
          let here : place < places = omega (arith, length-ranks places nodes tree.size, inside) in
          let rank : get_or (ranks_of (drop places nodes)) place 0 ≡ (node nodes (places + place)).rank = rank-at places nodes tree.size place 0 here in
          elim (chain places nodes tree (places + places) (places + place) (omega arith) (omega arith) (omega arith)) [
            | inl less ↦ inl (omega (arith, rank, less))
            | inr same ↦ inr (omega (arith, rank, same.0), omega (arith, tree.leaves place here, same.1))
          ];
    }

-- one step of mending from the last inner node down
pub mend-down : (nodes : List Entry) (places k : ℕ) (e : Entry) → length nodes ≡ places + places → 0 < k → k < places
    → ((j : ℕ) → 0 < j → k < j → j < places → IsInner nodes j)
    → e ≡ earlier (node nodes (2 * k)) (node nodes (2 * k + 1))
    → (j : ℕ) → 0 < j → k ≤ j → j < places → IsInner (set nodes k e) j
mend-down nodes places k e size positive within above is j j_positive from j_within =
    elim (cases_eq j k) [
      | inl same ↦ let P : ℕ → Type 0 = λ n. IsInner (set nodes k e) n in
          subst P (sym same) (IsInner-set_same nodes k e positive (omega arith) is)
      | inr apart ↦
          let half : j ≢ k / 2 = λ same. omega (arith, same) in
          IsInner-set_other nodes k j e j_positive apart half (above j j_positive (omega arith) j_within)
    ]

-- a write at a leaf changes the rank of its place
pub ranks-set : (places place : ℕ) (nodes written after : List Entry) (e : Entry) → written ≡ set nodes (places + place) e
    → drop places after ≡ drop places written → ranks_of (drop places after) ≡ set (ranks_of (drop places nodes)) place e.rank
ranks-set places place nodes written after e is kept =
    ap ranks_of kept ∙ (ap (λ (xs : List Entry). ranks_of (drop places xs)) is ∙ (ap ranks_of (drop-set-add places nodes place e) ∙ map-set (λ (x : Entry). x.rank) (drop places nodes) place e))
