-- Binding in a heap that gained nodes.
use Rattle.std.proofs.Common.{◌≡◌, ℕ, ◌||◌, List, [], ◌∷◌, length, nat_eq, Bool, true, false, slice_index, refl, sym, ap, ◌∙◌}
use Rattle.level_terms.specs.Graph.{Graph}
use Rattle.level_terms.specs.Sound.{IsSound}
use Rattle.level_terms.specs.Reading.{read}
use Rattle.ref_terms.specs.terms.Term.{Term, Head, At, Con, Int, Str, Name, Bound, Var}
use Rattle.ref_terms.specs.terms.Index.{sub}
use Rattle.ref_terms.specs.terms.Apply.{apply, fill}
use Rattle.ref_terms.specs.terms.Occurs.{is_variable, occurs}
use Rattle.ref_terms.specs.lemmas.ApplyLemmas.{AllReady}
use Rattle.ref_terms.specs.lemmas.ComposeLemmas.{fill-sub, Fits}
use Rattle.ref_terms.specs.lemmas.NameLemmas.{close-apply, nameless-apply}
use Rattle.ref_terms.specs.lemmas.ReadyFacts.{ready-name}
use Rattle.ref_terms.specs.unification.Closing.{close_all, names_below}
use Rattle.beta_fragment.specs.Names.{names, renamed, AreDistinct}
use Rattle.beta_fragment.proofs.NamelessLemmas.{nameless-read}
use Rattle.level_terms.proofs.ReadLemmas.{read-built, read-follows}
use Rattle.pattern_unify.specs.inside.Binding.{HasPositions, IsNameless}
use Rattle.pattern_unify.specs.Bound.{NamesAmong}
use Rattle.pattern_unify.proofs.AbsentLemmas.{absent-fill}
use Rattle.pattern_unify.proofs.CloseNames.{rename, rename-nameless, close-positions}

-- renaming what levels stand for is renaming names after reading
renamed-ready : (table : List ℕ) → AllReady (renamed table)
renamed-ready table i = ready-name (slice_index table i)

rename-fits : (table : List ℕ) → Fits (rename table) (rename table) names (renamed table)
rename-fits table (Bound i) = refl
rename-fits table (Name n) = refl
rename-fits table (Con c) = refl
rename-fits table (Int c) = refl
rename-fits table (Str c) = refl
rename-fits table (Var c) = refl

pub read-renamed : (g : Graph) → IsSound g → (t : ℕ) (table : List ℕ) → read g t (renamed table) ≡ fill (rename table) (read g t names)
read-renamed g s t table =
    sym (read-follows g s t (λ i. At (Bound i)) (renamed table) (λ i. tt))
    ∙ ap (sub (renamed table)) (sym (rename-nameless table (read g t (λ i. At (Bound i))) (read-built g t (λ i. At (Bound i))) (λ n. nameless-read n g t (λ i. At (Bound i)) (λ i. refl))))
    ∙ sym (fill-sub (rename table) (rename table) names (renamed table) (renamed-ready table) (rename-fits table) (read g t (λ i. At (Bound i))))
    ∙ ap (fill (rename table)) (read-follows g s t (λ i. At (Bound i)) names (λ i. tt))

-- the value of a node whose names were renamed to their positions
pub positions-value : (g h : Graph) (t r : ℕ) (ns table list : List ℕ) → IsSound g → read h r names ≡ read g t (renamed list) → list ≡ table → AreDistinct ns → HasPositions ns table → NamesAmong ns (read g t names) →
    close_all (names_below (length ns)) (read h r names) ≡ close_all ns (read g t names)
positions-value g h t r ns table list s e q d p among =
    ap (close_all (names_below (length ns))) (e ∙ ap (λ (ks : List ℕ). read g t (renamed ks)) q ∙ read-renamed g s t table)
    ∙ close-positions ns table (read g t names) d p among (read-built g t names)

rename-absent : (v : ℕ) (table : List ℕ) (h : Head) → is_variable v h ≡ false → occurs v (rename table h) ≡ false
rename-absent v table (Name k) e = refl
rename-absent v table (Bound i) e = refl
rename-absent v table (Con c) e = refl
rename-absent v table (Int c) e = refl
rename-absent v table (Str c) e = refl
rename-absent v table (Var w) e = e

pub positions-absent : (g h : Graph) (t r v : ℕ) (list : List ℕ) → IsSound g → read h r names ≡ read g t (renamed list) → occurs v (read g t names) ≡ false → occurs v (read h r names) ≡ false
positions-absent g h t r v list s e absent = ap (occurs v) (e ∙ read-renamed g s t list) ∙ absent-fill v (rename list) (rename-absent v list) (read g t names) absent

-- a term without names, applied to a name and closed over it
pub nameless-value : (g : Graph) (t n : ℕ) → IsNameless (read g t names) → close_all (n ∷ []) (apply (read g t names) (names n)) ≡ read g t names
nameless-value g t n none = close-apply n (read g t names) (read-built g t names) (none n)

pub nameless-among : (u : Term) (n : ℕ) → IsNameless u → NamesAmong (n ∷ []) (apply u (names n))
nameless-among u n none k e = go (nat_eq k n) refl
  where
    go : (b : Bool) → nat_eq k n ≡ b → (b || false) ≡ true
    go true q = refl
    go false q = absurd (let z : true ≡ false = sym e ∙ nameless-apply k u (names n) (none k) q in cc)

pub nameless-applied : (g h k : Graph) (t closed node n : ℕ) (list : List ℕ) → IsSound g → IsNameless (read g t names) → read h closed names ≡ read g t (renamed list) → read k node names ≡ apply (read h closed names) (names n) →
    read k node names ≡ apply (read g t names) (names n)
nameless-applied g h k t closed node n list s none e q =
    q ∙ ap (λ u. apply u (names n)) (e ∙ read-renamed g s t list ∙ rename-nameless list (read g t names) (read-built g t names) none)
