-- Places of variables in a list, and the numbers of infix constants.
use Rattle.std.proofs.Common.{◌≡◌, ℕ, zero, suc, ◌+◌, Bool, true, false, not, cond, nat_eq, List, [], ◌∷◌, refl, sym, ap, arith}
use Rattle.std.specs.List.{position_or_len}
use Rattle.std.proofs.lemmas.Option.{slice_get_past}
use Rattle.ref_terms.specs.search.Reserved.{words, word_of}
use Rattle.ref_terms.specs.texts.Text.{infix_word}
use Rattle.ref_terms.specs.texts.Numbering.{place_of}

place-step : (b : Bool) (n m : ℕ) → n ≡ m → cond {A = ℕ} b 0 (suc n) ≡ cond {A = ℕ} (not b) (1 + m) 0
place-step true n m e = refl
place-step false n m e = omega (arith, e)

-- the place of a variable is that of the first item that is equal to it
pub place-is : (v : ℕ) (ws : List ℕ) → place_of v ws ≡ position_or_len (nat_eq v) ws
place-is v [] = refl
place-is v (w ∷ ws) = place-step (nat_eq v w) (place_of v ws) (position_or_len (nat_eq v) ws) (place-is v ws)

-- a number that isn't that of an infix constant
pub other-symbol : (n : ℕ) → (n ≡ 3 → ⊥) → (n ≡ 4 → ⊥) → (n ≡ 5 → ⊥) → (n ≡ 6 → ⊥) → (n ≡ 9 → ⊥) → (n ≡ 13 → ⊥) → (n ≡ 19 → ⊥) → (n ≡ 20 → ⊥) → (n ≡ 21 → ⊥) → (n ≡ 22 → ⊥) → false ≡ infix_word (word_of n)
other-symbol zero h3 h4 h5 h6 h9 h13 h19 h20 h21 h22 = refl
other-symbol (suc zero) h3 h4 h5 h6 h9 h13 h19 h20 h21 h22 = refl
other-symbol (suc (suc zero)) h3 h4 h5 h6 h9 h13 h19 h20 h21 h22 = refl
other-symbol (suc (suc (suc zero))) h3 h4 h5 h6 h9 h13 h19 h20 h21 h22 = absurd (h3 refl)
other-symbol (suc (suc (suc (suc zero)))) h3 h4 h5 h6 h9 h13 h19 h20 h21 h22 = absurd (h4 refl)
other-symbol (suc (suc (suc (suc (suc zero))))) h3 h4 h5 h6 h9 h13 h19 h20 h21 h22 = absurd (h5 refl)
other-symbol (suc (suc (suc (suc (suc (suc zero)))))) h3 h4 h5 h6 h9 h13 h19 h20 h21 h22 = absurd (h6 refl)
other-symbol (suc (suc (suc (suc (suc (suc (suc zero))))))) h3 h4 h5 h6 h9 h13 h19 h20 h21 h22 = refl
other-symbol (suc (suc (suc (suc (suc (suc (suc (suc zero)))))))) h3 h4 h5 h6 h9 h13 h19 h20 h21 h22 = refl
other-symbol (suc (suc (suc (suc (suc (suc (suc (suc (suc zero))))))))) h3 h4 h5 h6 h9 h13 h19 h20 h21 h22 = absurd (h9 refl)
other-symbol (suc (suc (suc (suc (suc (suc (suc (suc (suc (suc zero)))))))))) h3 h4 h5 h6 h9 h13 h19 h20 h21 h22 = refl
other-symbol (suc (suc (suc (suc (suc (suc (suc (suc (suc (suc (suc zero))))))))))) h3 h4 h5 h6 h9 h13 h19 h20 h21 h22 = refl
other-symbol (suc (suc (suc (suc (suc (suc (suc (suc (suc (suc (suc (suc zero)))))))))))) h3 h4 h5 h6 h9 h13 h19 h20 h21 h22 = refl
other-symbol (suc (suc (suc (suc (suc (suc (suc (suc (suc (suc (suc (suc (suc zero))))))))))))) h3 h4 h5 h6 h9 h13 h19 h20 h21 h22 = absurd (h13 refl)
other-symbol (suc (suc (suc (suc (suc (suc (suc (suc (suc (suc (suc (suc (suc (suc zero)))))))))))))) h3 h4 h5 h6 h9 h13 h19 h20 h21 h22 = refl
other-symbol (suc (suc (suc (suc (suc (suc (suc (suc (suc (suc (suc (suc (suc (suc (suc zero))))))))))))))) h3 h4 h5 h6 h9 h13 h19 h20 h21 h22 = refl
other-symbol (suc (suc (suc (suc (suc (suc (suc (suc (suc (suc (suc (suc (suc (suc (suc (suc zero)))))))))))))))) h3 h4 h5 h6 h9 h13 h19 h20 h21 h22 = refl
other-symbol (suc (suc (suc (suc (suc (suc (suc (suc (suc (suc (suc (suc (suc (suc (suc (suc (suc zero))))))))))))))))) h3 h4 h5 h6 h9 h13 h19 h20 h21 h22 = refl
other-symbol (suc (suc (suc (suc (suc (suc (suc (suc (suc (suc (suc (suc (suc (suc (suc (suc (suc (suc zero)))))))))))))))))) h3 h4 h5 h6 h9 h13 h19 h20 h21 h22 = refl
other-symbol (suc (suc (suc (suc (suc (suc (suc (suc (suc (suc (suc (suc (suc (suc (suc (suc (suc (suc (suc zero))))))))))))))))))) h3 h4 h5 h6 h9 h13 h19 h20 h21 h22 = absurd (h19 refl)
other-symbol (suc (suc (suc (suc (suc (suc (suc (suc (suc (suc (suc (suc (suc (suc (suc (suc (suc (suc (suc (suc zero)))))))))))))))))))) h3 h4 h5 h6 h9 h13 h19 h20 h21 h22 = absurd (h20 refl)
other-symbol (suc (suc (suc (suc (suc (suc (suc (suc (suc (suc (suc (suc (suc (suc (suc (suc (suc (suc (suc (suc (suc zero))))))))))))))))))))) h3 h4 h5 h6 h9 h13 h19 h20 h21 h22 = absurd (h21 refl)
other-symbol (suc (suc (suc (suc (suc (suc (suc (suc (suc (suc (suc (suc (suc (suc (suc (suc (suc (suc (suc (suc (suc (suc zero)))))))))))))))))))))) h3 h4 h5 h6 h9 h13 h19 h20 h21 h22 = absurd (h22 refl)
other-symbol (suc (suc (suc (suc (suc (suc (suc (suc (suc (suc (suc (suc (suc (suc (suc (suc (suc (suc (suc (suc (suc (suc (suc zero))))))))))))))))))))))) h3 h4 h5 h6 h9 h13 h19 h20 h21 h22 = refl
other-symbol (suc (suc (suc (suc (suc (suc (suc (suc (suc (suc (suc (suc (suc (suc (suc (suc (suc (suc (suc (suc (suc (suc (suc (suc zero)))))))))))))))))))))))) h3 h4 h5 h6 h9 h13 h19 h20 h21 h22 = refl
other-symbol (suc (suc (suc (suc (suc (suc (suc (suc (suc (suc (suc (suc (suc (suc (suc (suc (suc (suc (suc (suc (suc (suc (suc (suc (suc n))))))))))))))))))))))))) h3 h4 h5 h6 h9 h13 h19 h20 h21 h22 = ap infix_word (sym (slice_get_past words (suc (suc (suc (suc (suc (suc (suc (suc (suc (suc (suc (suc (suc (suc (suc (suc (suc (suc (suc (suc (suc (suc (suc (suc (suc n))))))))))))))))))))))))) (omega arith)))
