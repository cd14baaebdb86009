-- One node of a graph without cycles comes to stand for another one.
use Rattle.std.proofs.Common.{◌≡◌, ℕ, suc, ◌+◌, ◌*◌, ◌<◌, ◌≤◌, cond, nat_eq, Bool, true, false, refl, sym, ap, ◌∙◌, subst, arith, eqb-true, eq-eqb, ne_eqb}
use Rattle.type_graph.specs.declared.node.Node.{Node}
use Rattle.type_graph.specs.declared.node.Node.TheVariants.{Free, Leaf, Apply, Same}
use Rattle.type_graph.specs.Graph.{Lowers, IsRanked, IsAcyclic}
use Rattle.type_graph.specs.inside.Reach.{Marks, IsApart}
use Rattle.type_graph.proofs.Put.{put, at-put, put-same, put-other}
use Rattle.type_graph.proofs.Values.{Algebra, layer, value, value-at, eval-marks}

-- heights as values
abbrev heights : Algebra ℕ
heights = record { leaf = λ w. 0; apply = λ a b. suc (a + b); same = suc }

lowers : (h : ℕ → ℕ) (n free : ℕ) (x : Node) → n ≡ layer heights free h x → Lowers h n x
lowers h n free Free e = tt
lowers h n free (Leaf w) e = tt
lowers h n free (Apply l r) e = (omega (arith, e), omega (arith, e))
lowers h n free (Same j) e = omega (arith, e)

-- a number for one node, and 0 for all others
abbrev only : ℕ → ℕ → ℕ → ℕ
only i n k = cond (nat_eq k i) n 0

only-same : (i n : ℕ) → only i n i ≡ n
only-same i n = ap (λ b. cond {A = ℕ} b n 0) (eq-eqb i i refl)

only-marked : (marks : ℕ → Bool) (i n k : ℕ) → marks i ≡ false → marks k ≡ true → 0 ≡ only i n k
only-marked marks i n k out within = sym (ap (λ b. cond {A = ℕ} b n 0) (ne_eqb k i (λ e. let c : true ≡ false = sym within ∙ ap marks e ∙ out in cc)))

-- with one node left free, a graph is ranked as before
ranked-free : (g : ℕ → Node) (rank : ℕ → ℕ) (i : ℕ) → IsRanked g rank → IsRanked (put g i Free) rank
ranked-free g rank i ranked = at-put (λ k x. Lowers rank (rank k) x) g i Free tt (λ k d. ranked k)

marks-free : (marks : ℕ → Bool) (g : ℕ → Node) (i : ℕ) → ((k : ℕ) → marks k ≡ true → Marks marks (g k)) → (k : ℕ) → marks k ≡ true → Marks marks (put g i Free k)
marks-free marks g i closed = at-put (λ k x. marks k ≡ true → Marks marks x) g i Free (λ m. tt) (λ k d m. closed k m)

-- the second node comes to stand for the first, which doesn't lead to it
pub acyclic-same : (g : ℕ → Node) (first second : ℕ) → IsAcyclic g → IsApart g first second → IsAcyclic (put g second (Same first))
acyclic-same g first second a apart =
    let cut = put g second Free in
    let ranked = ranked-free g a.rank second a.ranked in
    let low = value heights cut (λ k. 0) a.rank in
    let base = only second (suc (low first)) in
    let high = value heights cut base a.rank in
    let kept : low first ≡ high first =
    eval-marks heights cut (λ k. 0) base apart.marks (marks-free apart.marks g second apart.closed)
    (λ k m. only-marked apart.marks second (suc (low first)) k apart.second_out m) (suc (a.rank first)) first apart.first_in in
    let at = value-at heights cut base a.rank ranked in
    let top : high second ≡ suc (low first) =
    at second ∙ ap (layer heights (base second) high) (put-same g second Free) ∙ only-same second (suc (low first)) in
    record {
      rank = high;
      ranked = at-put (λ k x. Lowers high (high k) x) g second (Same first) (omega (arith, kept, top))
          (λ k d. lowers high (high k) (base k) (g k) (at k ∙ ap (layer heights (base k) high) (put-other g second Free k d)));
    }

-- ranks with room between them, where a node takes another one's place and that one comes right after it
abbrev moved : (ℕ → ℕ) → ℕ → ℕ → ℕ → ℕ
moved h low high k = cond (nat_eq k low) (2 * h high) (2 * h k + 1)

moved-le : (h : ℕ → ℕ) (low high k : ℕ) → h high < h low → moved h low high k ≤ 2 * h k + 1
moved-le h low high k lt = go (nat_eq k low) refl
  where
    go : (b : Bool) → nat_eq k low ≡ b → cond b (2 * h high) (2 * h k + 1) ≤ 2 * h k + 1
    go true e = let s : h k ≡ h low = ap h (eqb-true k low e) in omega (arith, s, lt)
    go false e = omega arith

moved-low : (h : ℕ → ℕ) (low high : ℕ) → moved h low high low ≡ 2 * h high
moved-low h low high = ap (λ b. cond {A = ℕ} b (2 * h high) (2 * h low + 1)) (eq-eqb low low refl)

moved-other : (h : ℕ → ℕ) (low high k : ℕ) → (k ≡ low → ⊥) → moved h low high k ≡ 2 * h k + 1
moved-other h low high k d = ap (λ b. cond {A = ℕ} b (2 * h high) (2 * h k + 1)) (ne_eqb k low d)

-- what a node leads to is lower still
lowers-moved : (h : ℕ → ℕ) (low high n m : ℕ) → h high < h low → 2 * n ≤ m → (x : Node) → Lowers h n x → Lowers (moved h low high) m x
lowers-moved h low high n m lt le Free l = tt
lowers-moved h low high n m lt le (Leaf w) l = tt
lowers-moved h low high n m lt le (Apply f a) l = (omega (arith, l.0, le, moved-le h low high f lt), omega (arith, l.1, le, moved-le h low high a lt))
lowers-moved h low high n m lt le (Same j) l = omega (arith, l, le, moved-le h low high j lt)

-- a free node that stands for another one takes its place
pub acyclic-taken : (g : ℕ → Node) (low high : ℕ) → (low ≡ high → ⊥) → IsAcyclic (put g low (Same high)) → IsAcyclic (put (put g low (g high)) high (Same low))
acyclic-taken g low high distinct a =
    let h = a.rank in
    let one = put g low (Same high) in
    let lt : h high < h low = subst (Lowers h (h low)) (put-same g low (Same high)) (a.ranked low) in
    let at : Lowers h (h high) (g high) = subst (Lowers h (h high)) (put-other g low (Same high) high (λ e. distinct (sym e))) (a.ranked high) in
    let rank = moved h low high in
    record {
      rank = rank;
      ranked = at-put (λ k x. Lowers rank (rank k) x) (put g low (g high)) high (Same low)
          (omega (arith, moved-low h low high, moved-other h low high high (λ e. distinct (sym e))))
          (λ k d. at-put (λ k x. (k ≡ high → ⊥) → Lowers rank (rank k) x) g low (g high)
          (λ d. lowers-moved h low high (h high) (rank low) lt (omega (arith, moved-low h low high)) (g high) at)
          (λ k e d. lowers-moved h low high (h k) (rank k) lt (omega (arith, moved-other h low high k e)) (g k) (subst (Lowers h (h k)) (put-other g low (Same high) k e) (a.ranked k)))
          k d);
    }
