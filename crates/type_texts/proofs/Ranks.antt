-- Ranks of a graph's nodes that are at most the number of its nodes.
use Rattle.std.proofs.Common.{◌≡◌, ℕ, zero, suc, ◌+◌, ◌<◌, ◌≤◌, Bool, true, false, cond, nat_lt, ◌⊎◌, inl, inr, refl, sym, subst, arith}
use Rattle.std.proofs.lemmas.Bool.{cases_lt}
use Rattle.std.proofs.lemmas.Bool.Decides.{nat_tests}
use Rattle.type_graph.specs.declared.node.Node.{Node}
use Rattle.type_graph.specs.declared.node.Node.TheVariants.{Free, Leaf, Apply, Same}
use Rattle.type_graph.specs.Graph.{LeadsBelow, IsWithin, Lowers, IsRanked}

-- one, if the number a is lower than b
abbrev pub one : ℕ → ℕ → ℕ
one a b = cond (nat_lt a b) 1 0

one-lower : (a b : ℕ) → a < b → one a b ≡ 1
one-lower a b h = let e : nat_lt a b ≡ true = grind (arith, nat_tests) in rw e refl

one-equal : (a : ℕ) → one a a ≡ 0
one-equal a = let e : nat_lt a a ≡ false = grind (arith, nat_tests) in rw e refl

one-more : (a b c : ℕ) → b ≤ c → one a b ≤ one a c
one-more a b c h = at (cases_lt a b) where
  at : (a < b) ⊎ (b ≤ a) → one a b ≤ one a c
  at (inl l) = omega (arith, one-lower a b l, one-lower a c (omega (arith, l, h)))
  at (inr m) = let e : nat_lt a b ≡ false = grind (arith, nat_tests) in let z : one a b ≡ 0 = rw e refl in omega (arith, z)

one-most : (a b : ℕ) → one a b ≤ 1
one-most a b = at (nat_lt a b) where
  at : (t : Bool) → cond {A = ℕ} t 1 0 ≤ 1
  at true = omega arith
  at false = omega arith

-- how many of the first n nodes have a lower rank than b
abbrev pub lower : (rank : ℕ → ℕ) → ℕ → ℕ → ℕ
lower rank zero b = 0
lower rank (suc n) b = lower rank n b + one (rank n) b

pub lower-most : (rank : ℕ → ℕ) (n b : ℕ) → lower rank n b ≤ n
lower-most rank zero b = omega arith
lower-most rank (suc n) b = omega (arith, lower-most rank n b, one-most (rank n) b)

lower-more : (rank : ℕ → ℕ) (n b c : ℕ) → b ≤ c → lower rank n b ≤ lower rank n c
lower-more rank zero b c h = omega arith
lower-more rank (suc n) b c h = omega (arith, lower-more rank n b c h, one-more (rank n) b c h)

-- a node's own rank counts for a higher one alone
pub lower-strict : (rank : ℕ → ℕ) (n k c : ℕ) → k < n → rank k < c → lower rank n (rank k) < lower rank n c
lower-strict rank zero k c h l = absurd (omega (arith, h))
lower-strict rank (suc n) k c h l = at (cases_lt k n) (λ less. lower-strict rank n k c less l) where
  at : (k < n) ⊎ (n ≤ k) → (k < n → lower rank n (rank k) < lower rank n c) → lower rank (suc n) (rank k) < lower rank (suc n) c
  at (inl less) below = omega (arith, below less, one-more (rank n) (rank k) c (omega (arith, l)))
  at (inr same) below =
      let e : k ≡ n = omega (arith, same, h) in
      let low : rank n < c = subst (λ (m : ℕ). rank m < c) e l in
      let P : ℕ → Type 0 = λ m. lower rank (suc n) (rank m) < lower rank (suc n) c in
      subst P (sym e) (omega (arith, one-equal (rank n), one-lower (rank n) c low, lower-more rank n (rank n) c (omega (arith, low))))

lowers : (rank : ℕ → ℕ) (n k : ℕ) (x : Node) → LeadsBelow n x → Lowers rank (rank k) x → Lowers (λ j. lower rank n (rank j)) (lower rank n (rank k)) x
lowers rank n k Free below low = tt
lowers rank n k (Leaf w) below low = tt
lowers rank n k (Apply l r) below low = (lower-strict rank n l (rank k) below.0 low.0, lower-strict rank n r (rank k) below.1 low.1)
lowers rank n k (Same j) below low = lower-strict rank n j (rank k) below low

-- the number of nodes of lower ranks is a rank
pub lower-ranked : (g : ℕ → Node) (rank : ℕ → ℕ) (n : ℕ) → IsWithin n g → IsRanked g rank → IsRanked g (λ j. lower rank n (rank j))
lower-ranked g rank n within ranked k = lowers rank n k (g k) (within k) (ranked k)
