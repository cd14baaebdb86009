-- The argument that has the key.
use Rattle.std.proofs.Common.{◌≡◌, ℕ, zero, suc, ◌<◌, ◌≤◌, Bool, true, false, List, [], ◌∷◌, map, length, drop, get_or, Option, Some, None, refl, sym, ap, ◌∙◌, arith, option_map, subst, min}
use Rattle.std.specs.Option.{option_map_or}
use Rattle.level_terms.specs.declared.node.TermId.{TermId}
use Rattle.level_terms.specs.Graph.{Graph}
use Rattle.level_terms.specs.Reading.{read}
use Rattle.level_terms.specs.Valid.{IsValid}
use Rattle.beta_fragment.specs.HeadForm.{AllValidAt, all_read}
use Rattle.beta_fragment.specs.Names.{names}
use Rattle.clause_key.specs.declared.key.Key.TheVariants.{Any}
use Rattle.clause_key.specs.Keys.{key_of, first_input, or_first, key_argument, key_among}

module _ {A B : Type 0} (f : A → B) where
  pub input-map : (ms : List Bool) (ts : List A) → first_input ms (map f ts) ≡ option_map f (first_input ms ts)
  input-map [] [] = refl
  input-map [] (t ∷ ts) = refl
  input-map (true ∷ ms) [] = refl
  input-map (false ∷ ms) [] = refl
  input-map (true ∷ ms) (t ∷ ts) = refl
  input-map (false ∷ ms) (t ∷ ts) = input-map ms ts

  or-map : (o : Option A) (ts : List A) → or_first (option_map f o) (map f ts) ≡ option_map f (or_first o ts)
  or-map (Some t) ts = refl
  or-map None [] = refl
  or-map None (t ∷ ts) = refl

  -- of what terms are mapped to
  pub argument-map : (ms : List Bool) (ts : List A) → key_argument ms (map f ts) ≡ option_map f (key_argument ms ts)
  argument-map ms ts = ap (λ o. or_first o (map f ts)) (input-map ms ts) ∙ or-map (first_input ms ts) ts

-- lists from a place on
module _ {A : Type 0} where
  pub dropped : (xs : List A) (d : A) (i : ℕ) → i < length xs → drop i xs ≡ get_or xs i d ∷ drop (suc i) xs
  dropped [] d i l = absurd (let z : i < 0 = l in omega (arith, z))
  dropped (x ∷ xs) d zero l = refl
  dropped (x ∷ xs) d (suc i) l = dropped xs d i (let z : suc i < suc (length xs) = l in omega (arith, z))

  drop-past : (xs : List A) (i : ℕ) → length xs ≤ i → drop i xs ≡ []
  drop-past [] zero l = refl
  drop-past [] (suc i) l = refl
  drop-past (x ∷ xs) zero l = absurd (let z : suc (length xs) ≤ 0 = l in omega (arith, z))
  drop-past (x ∷ xs) (suc i) l = drop-past xs i (let z : suc (length xs) ≤ suc i = l in omega (arith, z))

module _ {A : Type 0} where
  -- an argument that is no input is passed by
  pub input-later : (ms : List Bool) (ts : List A) (d : A) (i : ℕ) → i < length ms → i < length ts → get_or ms i false ≡ false → first_input (drop i ms) (drop i ts) ≡ first_input (drop (suc i) ms) (drop (suc i) ts)
  input-later ms ts d i l k e =
      ap (λ xs. first_input xs (drop i ts)) (dropped ms false i l) ∙ ap (λ xs. first_input (get_or ms i false ∷ drop (suc i) ms) xs) (dropped ts d i k)
      ∙ ap (λ b. first_input (b ∷ drop (suc i) ms) (get_or ts i d ∷ drop (suc i) ts)) e

  -- an input is found
  pub input-here : (ms : List Bool) (ts : List A) (d : A) (i : ℕ) → i < length ms → i < length ts → get_or ms i false ≡ true → first_input (drop i ms) (drop i ts) ≡ Some (get_or ts i d)
  input-here ms ts d i l k e =
      ap (λ xs. first_input xs (drop i ts)) (dropped ms false i l) ∙ ap (λ xs. first_input (get_or ms i false ∷ drop (suc i) ms) xs) (dropped ts d i k)
      ∙ ap (λ b. first_input (b ∷ drop (suc i) ms) (get_or ts i d ∷ drop (suc i) ts)) e

  none-without : (ms : List Bool) → first_input {A = A} ms [] ≡ None
  none-without [] = refl
  none-without (true ∷ ms) = refl
  none-without (false ∷ ms) = refl

  -- past the shorter list there is none
  pub input-stop : (ms : List Bool) (ts : List A) (i : ℕ) → min (length ms) (length ts) ≤ i → first_input (drop i ms) (drop i ts) ≡ None
  input-stop [] [] zero l = refl
  input-stop [] [] (suc i) l = refl
  input-stop [] (t ∷ ts) zero l = refl
  input-stop [] (t ∷ ts) (suc i) l = ap (λ xs. first_input xs (drop i ts)) (let z : drop (suc i) [] ≡ [] = refl in z)
  input-stop (m ∷ ms) [] zero l = none-without (m ∷ ms)
  input-stop (m ∷ ms) [] (suc i) l = none-without (drop i ms)
  input-stop (m ∷ ms) (t ∷ ts) zero l = absurd (omega (arith, l))
  input-stop (m ∷ ms) (t ∷ ts) (suc i) l = input-stop ms ts i (omega (arith, l))

-- what holds of each argument holds of this one
module _ {A : Type 0} (P : A → Type 0) (Each : List A → Type 0) (first : (x : A) (xs : List A) → Each (x ∷ xs) → P x) (others : (x : A) (xs : List A) → Each (x ∷ xs) → Each xs) where
  among : (ms : List Bool) (ts : List A) (t : A) → first_input ms ts ≡ Some t → Each ts → P t
  among [] [] t k w = absurd (let z : None ≡ Some t = k in cc)
  among [] (x ∷ ts) t k w = absurd (let z : None ≡ Some t = k in cc)
  among (true ∷ ms) [] t k w = absurd (let z : None ≡ Some t = k in cc)
  among (false ∷ ms) [] t k w = absurd (let z : None ≡ Some t = k in cc)
  among (true ∷ ms) (x ∷ ts) t k w = subst P (let z : Some x ≡ Some t = k in let y : x ≡ t = cc in y) (first x ts w)
  among (false ∷ ms) (x ∷ ts) t k w = among ms ts t k (others x ts w)

  first-of : (ts : List A) (t : A) → or_first None ts ≡ Some t → Each ts → P t
  first-of [] t k w = absurd (let z : None ≡ Some t = k in cc)
  first-of (x ∷ ts) t k w = subst P (let z : Some x ≡ Some t = k in let y : x ≡ t = cc in y) (first x ts w)

  pub argument-holds : (ms : List Bool) (ts : List A) (t : A) → key_argument ms ts ≡ Some t → Each ts → P t
  argument-holds ms ts t e w = by (first_input ms ts) refl
    where
      by : (o : Option A) → first_input ms ts ≡ o → P t
      by None n = first-of ts t (sym (ap (λ o. or_first o ts) n) ∙ e) w
      by (Some u) n = subst P (let z : Some u ≡ Some t = sym (ap (λ o. or_first o ts) n) ∙ e in let y : u ≡ t = cc in y) (among ms ts u n w)

pub argument-valid : (g : Graph) (depth : ℕ) (ms : List Bool) (ts : List TermId) (t : TermId) → key_argument ms ts ≡ Some t → AllValidAt g ts depth → IsValid g t.index depth
argument-valid g depth ms ts t e v = argument-holds (λ (z : TermId). IsValid g z.index depth) (λ us. AllValidAt g us depth) (λ x xs w. w.0) (λ x xs w. w.1) ms ts t e v

-- the key among arguments, by the node that has it
pub key-read : (g : Graph) (ms : List Bool) (ts : List TermId) (o : Option TermId) → key_argument ms ts ≡ o → key_among ms (all_read g ts) ≡ option_map_or key_of (option_map (λ (t : TermId). read g t.index names) o) Any
key-read g ms ts o e = ap (λ q. option_map_or key_of q Any) (argument-map (λ (t : TermId). read g t.index names) ms ts ∙ ap (option_map (λ (t : TermId). read g t.index names)) e)
