-- Looking at the keys of stored constraints, and knowing that all of them are to be looked at.
use Rattle.std.proofs.Common.{◌≡◌, ℕ, zero, suc, ◌+◌, ◌<◌, ◌≤◌, Bool, true, false, ◌||◌, not, List, [], ◌∷◌, ◌++◌, map, take, length, refl, sym, ap, ap₂, ◌∙◌, Option, Some, arith}
use Rattle.std.specs.Prelude.{slice_index_or}
use Rattle.std.proofs.lemmas.List.{take_more, take_all, map-append}
use Rattle.level_terms.specs.declared.node.TermId.{TermId}
use Rattle.level_terms.specs.Graph.{Graph}
use Rattle.level_terms.specs.Reading.{read}
use Rattle.level_terms.specs.Valid.{IsValid}
use Rattle.level_terms.specs.Sound.{IsSound}
use Rattle.level_terms.specs.Gains.{GainsNodes}
use Rattle.level_terms.proofs.GainLemmas.{gains-reads}
use Rattle.beta_fragment.specs.Names.{names}
use Rattle.ref_terms.specs.search.Value.{is_flex}
use Rattle.ref_terms.specs.search.Waking.{heading}
use Rattle.ref_terms.specs.search.Used.{Every}
use Rattle.suspend.specs.Store.{Event, rows, waiting, stored}
use Rattle.suspend.specs.Keyed.{keys_read, awake_in, KeysValid, IsKeyed, Keyed}
use Rattle.suspend.specs.inside.Waking.{AreHeadedBy}
use Rattle.suspend.proofs.KeyLemmas.{keys-valid}
use Rattle.suspend.proofs.EventLemmas.{every-weaker, or-later}

-- one of a list of keys
pub key-at : (g : Graph) (depth : ℕ) (ks : List TermId) (i : ℕ) (d : TermId) → i < length ks → KeysValid g depth ks → ((slice_index_or ks i d).index < length g.nodes) × IsValid g (slice_index_or ks i d).index depth
key-at g depth [] i d low w = absurd (let z : i < 0 = low in omega (arith, z))
key-at g depth (k ∷ ks) zero d low w = w.0
key-at g depth (k ∷ ks) (suc i) d low w = key-at g depth ks i d (let z : suc i < suc (length ks) = low in omega (arith, z)) w.1

pub keys-gained : (g h : Graph) → IsSound g → GainsNodes g h → (depth : ℕ) (ks : List TermId) → KeysValid g depth ks → KeysValid h depth ks
keys-gained g h sound w depth ks u = keys-valid g h [] [] sound w.grows depth ks u

pub key-gained : (g h : Graph) (depth : ℕ) (ks : List TermId) (i : ℕ) (d : TermId) → IsSound g → GainsNodes g h → i < length ks → KeysValid g depth ks → IsValid h (slice_index_or ks i d).index depth
key-gained g h depth ks i d sound w low u = (key-at h depth ks i d low (keys-gained g h sound w depth ks u)).1

key-read : (g h : Graph) (depth : ℕ) (ks : List TermId) (i : ℕ) (d : TermId) → IsSound g → GainsNodes g h → i < length ks → KeysValid g depth ks → read h (slice_index_or ks i d).index names ≡ read g (slice_index_or ks i d).index names
key-read g h depth ks i d sound w low u = ap (λ f. f names) (gains-reads g h sound w (slice_index_or ks i d).index (key-at g depth ks i d low u).0)

-- one more key is headed by a variable
pub heads-more : (g h : Graph) (depth : ℕ) (ks : List TermId) (i : ℕ) (d : TermId) (vs vs' : List ℕ) (v : ℕ) → IsSound g → GainsNodes g h → i < length ks → KeysValid g depth ks
    → heading (read h (slice_index_or ks i d).index names) ≡ Some v → vs' ≡ vs ++ v ∷ [] → AreHeadedBy (keys_read g (take i ks)) vs → AreHeadedBy (keys_read g (take (i + 1) ks)) vs'
heads-more g h depth ks i d vs vs' v sound w low u head new before =
    ap (λ (zs : List TermId). map heading (keys_read g zs)) (take_more ks i d low)
    ∙ ap (map heading) (map-append (λ (k : TermId). read g k.index names) (take i ks) (slice_index_or ks i d ∷ []))
    ∙ map-append heading (keys_read g (take i ks)) (read g (slice_index_or ks i d).index names ∷ [])
    ∙ ap₂ (λ (xs : List (Option ℕ)) (o : Option ℕ). xs ++ o ∷ []) before (ap heading (sym (key-read g h depth ks i d sound w low u)) ∙ head)
    ∙ sym (map-append (λ (x : ℕ). Some x) vs (v ∷ []))
    ∙ ap (map (λ (x : ℕ). Some x)) (sym new)

pub heads-all : (g : Graph) (ks : List TermId) (i : ℕ) (vs : List ℕ) → length ks ≤ i → AreHeadedBy (keys_read g (take i ks)) vs → AreHeadedBy (keys_read g ks) vs
heads-all g ks i vs h w = sym (ap (λ (zs : List TermId). map heading (keys_read g zs)) (take_all i ks h)) ∙ w

-- one key isn't
any-awake : (g : Graph) (ks : List TermId) (i : ℕ) (d : TermId) → i < length ks → is_flex (read g (slice_index_or ks i d).index names) ≡ false → awake_in g ks ≡ true
any-awake g [] i d low e = absurd (let z : i < 0 = low in omega (arith, z))
any-awake g (k ∷ ks) zero d low e = ap (λ (b : Bool). not b || awake_in g ks) e
any-awake g (k ∷ ks) (suc i) d low e = or-later (not (is_flex (read g k.index names))) (awake_in g ks) (any-awake g ks i d (let z : suc i < suc (length ks) = low in omega (arith, z)) e)

pub heads-none : (g h : Graph) (depth : ℕ) (ks : List TermId) (i : ℕ) (d : TermId) → IsSound g → GainsNodes g h → i < length ks → KeysValid g depth ks → is_flex (read h (slice_index_or ks i d).index names) ≡ false → awake_in g ks ≡ true
heads-none g h depth ks i d sound w low u e = any-awake g ks i d low (sym (ap is_flex (key-read g h depth ks i d sound w low u)) ∙ e)

-- what is awake stays so where nodes are made
pub awake-gained : (g h : Graph) → IsSound g → GainsNodes g h → (depth : ℕ) (ks : List TermId) → KeysValid g depth ks → awake_in h ks ≡ awake_in g ks
awake-gained g h sound w depth [] u = refl
awake-gained g h sound w depth (k ∷ ks) u =
    ap (λ f. not (is_flex (f names)) || awake_in h ks) (gains-reads g h sound w k.index u.0.0)
    ∙ ap (λ (b : Bool). not (is_flex (read g k.index names)) || b) (awake-gained g h sound w depth ks u.1)

module _ {X : Type 0} where
  pub all-valid : (g : Graph) (log : List (Event X)) → Keyed log g → Every (λ e. KeysValid g e.1.names e.1.keys) (stored log)
  all-valid g log w = every-weaker (λ e. IsKeyed g (rows log) (waiting log) e.0 e.1.names e.1.keys) (λ e. KeysValid g e.1.names e.1.keys) (λ e u. u.0) (stored log) w
