-- Forms around clauses.
use Rattle.std.proofs.Common.{◌≡◌, ℕ, suc, ◌≤◌, List, [], ◌∷◌, ◌++◌, map, reverse, refl, ap, ap₂, ◌∙◌, arith, append-nil, append_assoc}
use Rattle.std.proofs.lemmas.List.{map-append}
use Rattle.ref_terms.specs.terms.Term.{Term}
use Rattle.ref_terms.specs.unification.Closing.{close}
use Rattle.ref_terms.specs.search.Reserved.{if_term, implies_term, pi_term}
use Rattle.ref_terms.specs.search.Assumption.{Assumption, guarded, quantified}
use Rattle.ref_terms.specs.declared.fault.Fault.{Fault}
use Rattle.ref_terms.specs.search.Fault.{Judged, Good, Bad, judged_map, judged_append}
use Rattle.level_terms.specs.declared.node.TermId.{TermId}
use Rattle.level_terms.specs.Graph.{Graph}
use Rattle.level_terms.specs.Growth.{Grows}
use Rattle.level_terms.specs.Reading.{read}
use Rattle.level_terms.specs.Sound.{IsSound}
use Rattle.level_terms.specs.Valid.{IsValid}
use Rattle.level_terms.proofs.ValidLemmas.{growth_keeps_readings, growth_keeps_valid, valid_deeper}
use Rattle.beta_fragment.specs.Names.{names}
use Rattle.beta_fragment.specs.HeadForm.{all_read, AllValidAt}
use Rattle.beta_fragment.proofs.HeadLemmas.{read-grown_all, valid-append}
use Rattle.level_terms.proofs.ReadLemmas.{valid-below}
use Rattle.hyp_clause.specs.declared.forms.Form.{Form}
use Rattle.hyp_clause.specs.declared.forms.Form.TheVariants.{If, Implies, Pi}
use Rattle.hyp_clause.specs.inside.Forms.{own_goals, goals_of, wrapped, assumed_around, around, level_outside, IsFormAt, AreFormsAt}

-- the clauses of a term, where one more form stands around it
pub around-if : (g : Graph) (t : TermId) (fs : List Form) (h : Assumption) → around g (If t ∷ fs) h ≡ around g fs (guarded (read g t.index names) (λ a. if_term a (read g t.index names)) h)
around-if g t fs h =
    let e = ap (λ (xs : List Term). xs ++ h.conditions) (map-append (λ (x : TermId). read g x.index names) (goals_of fs) (t ∷ [])) ∙ append_assoc (all_read g (goals_of fs)) (read g t.index names ∷ []) h.conditions in
    λ i. record { pred = h.pred; scope = h.scope; parameters = h.parameters; head = h.head; conditions = e i; assumed = assumed_around g fs (if_term h.assumed (read g t.index names)) }

pub around-implies : (g : Graph) (t : TermId) (fs : List Form) (h : Assumption) → around g (Implies t ∷ fs) h ≡ around g fs (guarded (read g t.index names) (implies_term (read g t.index names)) h)
around-implies g t fs h =
    let e = ap (λ (xs : List Term). xs ++ h.conditions) (map-append (λ (x : TermId). read g x.index names) (goals_of fs) (t ∷ [])) ∙ append_assoc (all_read g (goals_of fs)) (read g t.index names ∷ []) h.conditions in
    λ i. record { pred = h.pred; scope = h.scope; parameters = h.parameters; head = h.head; conditions = e i; assumed = assumed_around g fs (implies_term (read g t.index names) h.assumed) }

pub around-pi : (g : Graph) (l : ℕ) (fs : List Form) (h : Assumption) → around g (Pi l ∷ fs) h ≡ around g fs (quantified l h)
around-pi g l fs h =
    let e : all_read g (goals_of fs ++ []) ++ h.conditions ≡ all_read g (goals_of fs) ++ h.conditions = ap (λ (xs : List TermId). all_read g xs ++ h.conditions) (append-nil (goals_of fs)) in
    λ i. record { pred = h.pred; scope = h.scope; parameters = h.parameters; head = h.head; conditions = e i; assumed = assumed_around g fs (pi_term (close l h.assumed)) }

-- conditions, gathered from the inside
own-reverse : (f : Form) → reverse (own_goals f) ≡ own_goals f
own-reverse (If t) = refl
own-reverse (Implies t) = refl
own-reverse (Pi l) = refl

-- clauses, and a fault, that are judged
abbrev pub good : List Assumption → Judged (List Assumption)
good hs = Good hs

abbrev pub bad : Fault → Judged (List Assumption)
bad f = Bad f

-- what is judged, with a function on the clauses
pub judged-twice : (f q p : Assumption → Assumption) → ((h : Assumption) → p h ≡ f (q h)) → (j : Judged (List Assumption)) → judged_map (map p) j ≡ judged_map (map f) (judged_map (map q) j)
judged-twice f q p e (Good hs) = ap good (go hs)
  where
    go : (xs : List Assumption) → map p xs ≡ map f (map q xs)
    go [] = refl
    go (x ∷ xs) = ap₂ (λ (y : Assumption) (ys : List Assumption). y ∷ ys) (e x) (go xs)
judged-twice f q p e (Bad x) = refl

pub judged-both : (f : Assumption → Assumption) (j k : Judged (List Assumption)) → judged_map (map f) (judged_append j k) ≡ judged_append (judged_map (map f) j) (judged_map (map f) k)
judged-both f (Good xs) (Good ys) = ap good (map-append f xs ys)
judged-both f (Good xs) (Bad e) = refl
judged-both f (Bad e) k = refl

-- forms stand at a depth that isn't below the scope
outside-low : (g : Graph) (depth : ℕ) (f : Form) → IsFormAt g depth f → level_outside f depth ≤ depth
outside-low g depth (If t) w = let k : depth ≤ depth = omega arith in k
outside-low g depth (Implies t) w = let k : depth ≤ depth = omega arith in k
outside-low g depth (Pi l) w = let e : depth ≡ suc l = w in omega arith

-- the conditions are valid where the clause is
deeper_all : (g : Graph) (d e : ℕ) → d ≤ e → (ts : List TermId) → AllValidAt g ts d → AllValidAt g ts e
deeper_all g d e l [] w = tt
deeper_all g d e l (t ∷ ts) w = (valid_deeper g t.index d e w.0 l, deeper_all g d e l ts w.1)

own-valid : (g : Graph) (depth : ℕ) (f : Form) → IsFormAt g depth f → AllValidAt g (own_goals f) depth
own-valid g depth (If t) w = (w, tt)
own-valid g depth (Implies t) w = (w, tt)
own-valid g depth (Pi l) w = tt

pub goals-valid : (g : Graph) (scope depth : ℕ) (fs : List Form) → AreFormsAt g scope depth fs → AllValidAt g (goals_of fs) depth
goals-valid g scope depth [] w = tt
goals-valid g scope depth (f ∷ fs) w =
    valid-append g depth (goals_of fs) (own_goals f)
    (deeper_all g (level_outside f depth) depth (outside-low g depth f w.0) (goals_of fs) (goals-valid g scope (level_outside f depth) fs w.1))
    (own-valid g depth f w.0)

-- forms in a heap that grew
module _ (g h : Graph) (sound : IsSound g) (grows : Grows g h [] []) where
  pub reads-grown : (t d : ℕ) → IsValid g t d → read h t names ≡ read g t names
  reads-grown t d w = growth_keeps_readings g h t names sound grows (valid-below g t d w)

  pub valid-grown : (t d : ℕ) → IsValid g t d → IsValid h t d
  valid-grown t d w = growth_keeps_valid g h [] [] t d sound grows (valid-below g t d w) w

  pub wrapped-grown : (depth : ℕ) (f : Form) (a : Term) → IsFormAt g depth f → wrapped h f a ≡ wrapped g f a
  wrapped-grown depth (If t) a w = ap (if_term a) (reads-grown t.index depth w)
  wrapped-grown depth (Implies t) a w = ap (λ x. implies_term x a) (reads-grown t.index depth w)
  wrapped-grown depth (Pi l) a w = refl

  pub form-grown : (depth : ℕ) (f : Form) → IsFormAt g depth f → IsFormAt h depth f
  form-grown depth (If t) w = valid-grown t.index depth w
  form-grown depth (Implies t) w = valid-grown t.index depth w
  form-grown depth (Pi l) w = w

  pub forms-grown : (scope depth : ℕ) (fs : List Form) → AreFormsAt g scope depth fs → AreFormsAt h scope depth fs
  forms-grown scope depth [] w = w
  forms-grown scope depth (f ∷ fs) w = (form-grown depth f w.0, forms-grown scope (level_outside f depth) fs w.1)

  pub assumed-grown : (scope depth : ℕ) (fs : List Form) (a : Term) → AreFormsAt g scope depth fs → assumed_around h fs a ≡ assumed_around g fs a
  assumed-grown scope depth [] a w = refl
  assumed-grown scope depth (f ∷ fs) a w = assumed-grown scope (level_outside f depth) fs (wrapped h f a) w.1 ∙ ap (assumed_around g fs) (wrapped-grown depth f a w.0)

  pub around-grown : (scope depth : ℕ) (fs : List Form) (x : Assumption) → AreFormsAt g scope depth fs → around h fs x ≡ around g fs x
  around-grown scope depth fs x w =
      let e = ap (λ (ts : List Term). ts ++ x.conditions) (read-grown_all g h depth sound grows (goals_of fs) (goals-valid g scope depth fs w)) in
      let d = assumed-grown scope depth fs x.assumed w in
      λ i. record { pred = x.pred; scope = x.scope; parameters = x.parameters; head = x.head; conditions = e i; assumed = d i }
