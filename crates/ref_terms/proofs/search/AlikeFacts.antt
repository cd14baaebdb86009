-- Renamings of branches and alternatives.
use Rattle.std.proofs.Common.{◌≡◌, ℕ, zero, suc, ◌+◌, ◌-◌, ◌≤◌, ◌<◌, Bool, true, false, nat_lt, List, [], ◌∷◌, map, length, drop, refl, sym, ap, ◌∙◌, subst, arith}
use Rattle.std.proofs.lemmas.Bool.{lt-ltb, le-ltb, ltb-true, ltb-false}
use Rattle.ref_terms.specs.search.Branch.{Branch}
use Rattle.ref_terms.specs.search.State.{Candidate, Alternative, other_side}
use Rattle.ref_terms.specs.search.BranchMove.{with_later, cut_to}
use Rattle.ref_terms.specs.search.Renamed.{branch_vars, candidate_vars}
use Rattle.ref_terms.specs.search.Alike.{IsRenamingAt, RenamedBranch, RenamedAlternative, Each}
use Rattle.ref_terms.proofs.search.InstanceVars.{in_order}
use Rattle.ref_terms.proofs.search.Fair.{in-order-later}

module _ (p : ℕ → ℕ) (lo hi : ℕ) (low : lo ≤ hi) (good : IsRenamingAt lo p) where
  from-lo : (v : ℕ) → lo ≤ v → p v ≡ p lo + (v - lo)
  from-lo v above = let e : lo + (v - lo) ≡ v = omega arith in ap p (sym e) ∙ in_order p lo good.in_order lo (v - lo) (omega arith)

  below-lo : (v : ℕ) → v < lo → p v < p lo
  below-lo v below = ltb-true (p v) (p lo) (good.good.frozen v ∙ lt-ltb v lo below)

  order-later : (v : ℕ) → nat_lt (p v) (p hi) ≡ nat_lt v hi
  order-later v = go (nat_lt v hi) refl (nat_lt v lo) refl
    where
      go : (b : Bool) → nat_lt v hi ≡ b → (c : Bool) → nat_lt v lo ≡ c → nat_lt (p v) (p hi) ≡ nat_lt v hi
      go true e true d =
          let top = from-lo hi low in
          let less = below-lo v (ltb-true v lo d) in
          lt-ltb (p v) (p hi) (omega arith) ∙ sym e
      go true e false d =
          let top = from-lo hi low in
          let above = ltb-false v lo d in
          let under = ltb-true v hi e in
          let here = from-lo v above in
          lt-ltb (p v) (p hi) (omega arith) ∙ sym e
      go false e c d =
          let top = from-lo hi low in
          let over = ltb-false v hi e in
          let here = from-lo v (omega arith) in
          le-ltb (p v) (p hi) (omega arith) ∙ sym e

  -- a renaming stays one where more variables have been made
  pub renaming-later : IsRenamingAt hi p
  renaming-later = record { good = record { one_to_one = good.good.one_to_one; frozen = order-later }; in_order = in-order-later p lo hi low good.in_order }

pub each-length : {A : Type 0} (R : A → A → Type 0) (xs ys : List A) → Each R xs ys → length ys ≡ length xs
each-length R [] [] w = refl
each-length R (x ∷ xs) (y ∷ ys) w = ap suc (each-length R xs ys w.1)
each-length R [] (y ∷ ys) w = elim w [ ]
each-length R (x ∷ xs) [] w = elim w [ ]

each-drop : {A : Type 0} (R : A → A → Type 0) (n : ℕ) (xs ys : List A) → Each R xs ys → Each R (drop n xs) (drop n ys)
each-drop R zero xs ys w = w
each-drop R (suc n) [] [] w = tt
each-drop R (suc n) (x ∷ xs) (y ∷ ys) w = each-drop R n xs ys w.1
each-drop R (suc n) [] (y ∷ ys) w = elim w [ ]
each-drop R (suc n) (x ∷ xs) [] w = elim w [ ]

-- cut leaves renamed alternatives
pub cut-renamed : (barrier : ℕ) (xs ys : List Alternative) → Each RenamedAlternative xs ys → Each RenamedAlternative (cut_to barrier xs) (cut_to barrier ys)
cut-renamed barrier xs ys w = subst (λ (n : ℕ). Each RenamedAlternative (cut_to barrier xs) (drop (n - barrier) ys)) (sym (each-length RenamedAlternative xs ys w)) (each-drop RenamedAlternative (length xs - barrier) xs ys w)

module _ (p : ℕ → ℕ) (lo : ℕ) (good : IsRenamingAt lo p) where
  pub branch-renamed : (b c : Branch) → lo ≤ b.next_var → c ≡ branch_vars p b → RenamedBranch b c
  branch-renamed b c low e = record { renaming = p; good = renaming-later p lo b.next_var low good; same = e }

  -- so does an alternative of the clauses that are left
  pub later-renamed : (b : Branch) → lo ≤ b.next_var → (cs : List Candidate) (xs ys : List Alternative) → Each RenamedAlternative xs ys
      → Each RenamedAlternative (with_later b cs xs) (with_later (branch_vars p b) (map (candidate_vars p) cs) ys)
  later-renamed b low [] xs ys w = w
  later-renamed b low (c ∷ cs) xs ys w = (record { renaming = p; good = renaming-later p lo b.next_var low good; same = refl }, w)

  pub side-renamed : (b c : Branch) → lo ≤ b.next_var → c ≡ branch_vars p b → RenamedAlternative (other_side b) (other_side c)
  side-renamed b c low e = record { renaming = p; good = renaming-later p lo b.next_var low good; same = ap other_side e }
