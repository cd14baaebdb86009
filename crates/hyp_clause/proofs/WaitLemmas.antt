-- Parts that wait.
use Rattle.std.proofs.Common.{◌≡◌, ℕ, ◌+◌, List, [], ◌∷◌, ◌++◌, map, reverse, refl, sym, ap, ap₂, ◌∙◌, arith, subst, append-nil, append_assoc}
use Rattle.std.proofs.lemmas.List.{map-append, reverse-append}
use Rattle.ref_terms.specs.search.Fault.{Judged, Good, Bad, judged_append, judged_map}
use Rattle.ref_terms.specs.search.Assumption.{Assumption, assumptions_of}
use Rattle.level_terms.specs.Graph.{Graph}
use Rattle.level_terms.specs.Growth.{Grows}
use Rattle.level_terms.specs.Sound.{IsSound}
use Rattle.level_terms.specs.Valid.{IsValid}
use Rattle.hyp_clause.specs.declared.hyp.Hyp.{Hyp}
use Rattle.hyp_clause.specs.declared.hyp.HypStop.{HypStop}
use Rattle.hyp_clause.specs.declared.hyp.HypStop.TheVariants.{Fault, Memory}
use Rattle.level_terms.specs.declared.node.TermId.{TermId}
use Rattle.level_terms.specs.Reading.{read}
use Rattle.beta_fragment.specs.Names.{names}
use Rattle.hyp_clause.specs.inside.Forms.{around}
use Rattle.hyp_clause.specs.declared.part.Part.{Part}
use Rattle.hyp_clause.specs.Hyps.{assumption_in, AllHypsValid, IsHypFault}
use Rattle.hyp_clause.specs.inside.Parts.{Task, Seen, kept, one, two, failed, task_of, judged, judged_seen, IsTurnOf}
use Rattle.hyp_clause.specs.inside.Waiting.{waiting, all_judged, whole, AreParts, sizes, IsTaken, IsRefused, GoesOn}
use Rattle.hyp_clause.proofs.HypLemmas.{hyps-read, hyps-valid, hyps-append}
use Rattle.hyp_clause.proofs.FormLemmas.{good}
use Rattle.hyp_clause.proofs.PartLemmas.{judged-grown, part-grown, size-grown}

-- one more part waits
pub waiting-more : (ps new : List Part) (p : Part) → new ≡ ps ++ p ∷ [] → waiting new ≡ task_of p ∷ waiting ps
waiting-more ps new p e = ap waiting e ∙ ap reverse (map-append task_of ps (p ∷ [])) ∙ reverse-append (map task_of ps) (task_of p ∷ [])

-- lists that are judged, one after the other
join-assoc : (a b c : Judged (List Assumption)) → judged_append (judged_append a b) c ≡ judged_append a (judged_append b c)
join-assoc (Good xs) (Good ys) (Good zs) = ap good (append_assoc xs ys zs)
join-assoc (Good xs) (Good ys) (Bad e) = refl
join-assoc (Good xs) (Bad e) c = refl
join-assoc (Bad e) b c = refl

-- in a heap that grew
parts-grown : (g h : Graph) (scope : ℕ) (ks : List Task) → IsSound g → Grows g h [] [] → AreParts g scope ks → AreParts h scope ks
parts-grown g h scope [] s w p = tt
parts-grown g h scope (k ∷ ks) s w p = (part-grown g h scope k s w p.0, parts-grown g h scope ks s w p.1)

all-grown : (g h : Graph) (scope : ℕ) (ks : List Task) → IsSound g → Grows g h [] [] → AreParts g scope ks → all_judged h scope ks ≡ all_judged g scope ks
all-grown g h scope [] s w p = refl
all-grown g h scope (k ∷ ks) s w p = ap₂ judged_append (judged-grown g h scope k s w p.0) (all-grown g h scope ks s w p.1)

sizes-grown : (g h : Graph) (scope : ℕ) (ks : List Task) → IsSound g → Grows g h [] [] → AreParts g scope ks → sizes h ks ≡ sizes g ks
sizes-grown g h scope [] s w p = refl
sizes-grown g h scope (k ∷ ks) s w p = ap₂ (λ (m n : ℕ). m + n) (size-grown g h scope k s w p.0) (sizes-grown g h scope ks s w p.1)

-- what was seen of a part, before the others
module _ (g h : Graph) (scope : ℕ) (k : Task) (hs : List Hyp) (ks : List Task) (s : IsSound g) (w : Grows g h [] []) (parts : AreParts g scope (k ∷ ks)) (hyps : AllHypsValid g hs) where
  older : judged_append (Good (map (assumption_in h) hs)) (judged_append (judged g scope k) (all_judged h scope ks)) ≡ whole g scope hs (k ∷ ks)
  older = ap₂ (λ (xs : List Assumption) (j : Judged (List Assumption)). judged_append (Good xs) (judged_append (judged g scope k) j)) (hyps-read g h hs s w hyps) (all-grown g h scope ks s w parts.1)

  kept-on : (x : Hyp) → IsTurnOf g h scope k (kept x) → GoesOn g h scope hs (k ∷ ks) (hs ++ x ∷ []) ks
  kept-on x t = record {
    reads = ap (λ (xs : List Assumption). judged_append (Good xs) (all_judged h scope ks)) (map-append (assumption_in h) hs (x ∷ []))
        ∙ join-assoc (Good (map (assumption_in h) hs)) (Good (assumption_in h x ∷ [])) (all_judged h scope ks)
        ∙ ap (λ (j : Judged (List Assumption)). judged_append (Good (map (assumption_in h) hs)) (judged_append j (all_judged h scope ks))) t.reads
        ∙ older;
    parts = parts-grown g h scope ks s w parts.1;
    hyps = hyps-append h hs (x ∷ []) (hyps-valid g h [] [] hs s w hyps) (t.makes_sense, tt);
    smaller = (let e = sizes-grown g h scope ks s w parts.1 in omega arith);
  }

  one-on : (l : Task) → IsTurnOf g h scope k (one l) → GoesOn g h scope hs (k ∷ ks) hs (l ∷ ks)
  one-on l t = record {
    reads = ap (λ (j : Judged (List Assumption)). judged_append (Good (map (assumption_in h) hs)) (judged_append j (all_judged h scope ks))) t.reads ∙ older;
    parts = (t.makes_sense, parts-grown g h scope ks s w parts.1);
    hyps = hyps-valid g h [] [] hs s w hyps;
    smaller = (let e = sizes-grown g h scope ks s w parts.1 in let d = t.smaller in omega arith);
  }

  two-on : (l m : Task) → IsTurnOf g h scope k (two l m) → GoesOn g h scope hs (k ∷ ks) hs (l ∷ m ∷ ks)
  two-on l m t = record {
    reads = ap (judged_append (Good (map (assumption_in h) hs))) (sym (join-assoc (judged h scope l) (judged h scope m) (all_judged h scope ks)))
        ∙ ap (λ (j : Judged (List Assumption)). judged_append (Good (map (assumption_in h) hs)) (judged_append j (all_judged h scope ks))) t.reads ∙ older;
    parts = (t.makes_sense.0, (t.makes_sense.1, parts-grown g h scope ks s w parts.1));
    hyps = hyps-valid g h [] [] hs s w hyps;
    smaller = (let e = sizes-grown g h scope ks s w parts.1 in let d = t.smaller in omega arith);
  }

  on : (x : Seen) (hs' : List Hyp) (ks' : List Task) → IsTurnOf g h scope k x → IsTaken x hs ks hs' ks' → GoesOn g h scope hs (k ∷ ks) hs' ks'
  on (kept x) hs' ks' t e = subst (λ (ys : List Hyp). GoesOn g h scope hs (k ∷ ks) ys ks') (sym e.0) (subst (GoesOn g h scope hs (k ∷ ks) (hs ++ x ∷ [])) (sym e.1) (kept-on x t))
  on (one l) hs' ks' t e = subst (λ (ys : List Hyp). GoesOn g h scope hs (k ∷ ks) ys ks') (sym e.0) (subst (GoesOn g h scope hs (k ∷ ks) hs) (sym e.1) (one-on l t))
  on (two l m) hs' ks' t e = subst (λ (ys : List Hyp). GoesOn g h scope hs (k ∷ ks) ys ks') (sym e.0) (subst (GoesOn g h scope hs (k ∷ ks) hs) (sym e.1) (two-on l m t))
  on (failed f) hs' ks' t e = absurd e

pub goes-on : (g h : Graph) (scope : ℕ) (k : Task) (hs : List Hyp) (ks : List Task) (x : Seen) (hs' : List Hyp) (ks' : List Task) → IsSound g → Grows g h [] [] → AreParts g scope (k ∷ ks) → AllHypsValid g hs → IsTurnOf g h scope k x → IsTaken x hs ks hs' ks' → GoesOn g h scope hs (k ∷ ks) hs' ks'
goes-on g h scope k hs ks x hs' ks' s w p v t e = on g h scope k hs ks s w p v x hs' ks' t e

pub refused : (g h : Graph) (scope : ℕ) (k : Task) (hs : List Hyp) (ks : List Task) (x : Seen) (stop : HypStop) → IsTurnOf g h scope k x → IsRefused x stop → IsHypFault stop (whole g scope hs (k ∷ ks))
refused g h scope k hs ks x Memory t e = tt
refused g h scope k hs ks x (Fault f) t e =
    let bad : Bad f ≡ judged g scope k = subst (λ (y : Seen). judged_seen h scope y ≡ judged g scope k) e t.reads in
    ap (λ (j : Judged (List Assumption)). judged_append (Good (map (assumption_in g) hs)) (judged_append j (all_judged g scope ks))) (sym bad)

-- the loop
pub all-read : (g : Graph) (scope : ℕ) (hs : List Hyp) (ks : List Task) (j : Judged (List Assumption)) → ks ≡ [] → whole g scope hs ks ≡ j → Good (map (assumption_in g) hs) ≡ j
all-read g scope hs ks j e r = ap good (sym (append-nil (map (assumption_in g) hs))) ∙ ap (whole g scope hs) (sym e) ∙ r

-- the parts before one is taken out
pub waiting-taken : (old ps : List Part) (p : Part) → old ≡ ps ++ p ∷ [] → waiting old ≡ task_of p ∷ waiting ps
waiting-taken old ps p e = waiting-more ps old p e

pub parts-taken : (g : Graph) (scope : ℕ) (old ps : List Part) (p : Part) → old ≡ ps ++ p ∷ [] → AreParts g scope (waiting old) → AreParts g scope (task_of p ∷ waiting ps)
parts-taken g scope old ps p e w = subst (AreParts g scope) (waiting-taken old ps p e) w

-- the loop goes on
pub whole-kept : (g h : Graph) (scope : ℕ) (hs hs' : List Hyp) (old ps : List Part) (p : Part) (ks' : List Task) (j : Judged (List Assumption)) → old ≡ ps ++ p ∷ [] → whole g scope hs (waiting old) ≡ j → GoesOn g h scope hs (task_of p ∷ waiting ps) hs' ks' → whole h scope hs' ks' ≡ j
whole-kept g h scope hs hs' old ps p ks' j e r w = w.reads ∙ ap (whole g scope hs) (sym (waiting-taken old ps p e)) ∙ r

pub fault-kept : (g : Graph) (scope : ℕ) (hs : List Hyp) (old ps : List Part) (p : Part) (j : Judged (List Assumption)) (stop : HypStop) → old ≡ ps ++ p ∷ [] → whole g scope hs (waiting old) ≡ j → IsHypFault stop (whole g scope hs (task_of p ∷ waiting ps)) → IsHypFault stop j
fault-kept g scope hs old ps p j stop e r f = subst (IsHypFault stop) (ap (whole g scope hs) (sym (waiting-taken old ps p e)) ∙ r) f

-- and begins with the whole term
pub whole-first : (g : Graph) (scope : ℕ) (t : TermId) → whole g scope [] (record { term = t; pis = 0; forms = [] } ∷ []) ≡ assumptions_of scope (read g t.index names)
whole-first g scope t = go (assumptions_of scope (read g t.index names))
  where
    own : (hs : List Assumption) → map (around g []) hs ≡ hs
    own [] = refl
    own (h ∷ hs) = ap (λ (xs : List Assumption). h ∷ xs) (own hs)

    go : (j : Judged (List Assumption)) → judged_append (Good []) (judged_append (judged_map (map (around g [])) j) (Good [])) ≡ j
    go (Good hs) = ap good (append-nil (map (around g []) hs) ∙ own hs)
    go (Bad f) = refl

pub first-part : (g : Graph) (scope : ℕ) (t : TermId) → IsValid g t.index scope → AreParts g scope (record { term = t; pis = 0; forms = [] } ∷ [])
first-part g scope t w =
    let e : scope ≡ scope + 0 = omega arith in
    (record { term = subst (IsValid g t.index) e w; forms = sym e }, tt)
