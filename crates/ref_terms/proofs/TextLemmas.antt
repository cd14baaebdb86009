-- The text of an event doesn't depend on the numbers of its variables.
use Rattle.std.proofs.Common.{◌≡◌, ℕ, suc, ◌++◌, Bool, true, false, cond, nat_eq, ◌||◌, decimal, List, [], ◌∷◌, map, Option, Some, None, refl, sym, ap, ap₂, ◌∙◌}
use Rattle.std.specs.List.{list_any}
use Rattle.ref_terms.specs.terms.Term.{Term, Lam, At, App, Head, Con, Int, Str, Name, Bound, Var}
use Rattle.ref_terms.specs.terms.Renamed.{vars, vars_head}
use Rattle.ref_terms.specs.texts.Text.{Part, Bytes, Free, Form, top, inner, front, left, head_text, infix_of, term_parts, bracketed, abstraction_form, binder, space, symbol}
use Rattle.ref_terms.specs.texts.Numbering.{place_of, seen_also, numbered, text_of}

-- renamed variables in a text
abbrev pub part_vars : (ℕ → ℕ) → Part → Part
part_vars p (Bytes bs) = Bytes bs
part_vars p (Free v) = Free (p v)

-- a map of two lists
map-++ : {A B : Type 0} (f : A → B) (xs ys : List A) → map f (xs ++ ys) ≡ map f xs ++ map f ys
map-++ f [] ys = refl
map-++ f (x ∷ xs) ys = ap (λ (zs : List _). f x ∷ zs) (map-++ f xs ys)

-- of a head
head-vars : (table : List (List ℕ)) (p : ℕ → ℕ) (d : ℕ) (h : Head) → head_text table d (vars_head p h) ≡ part_vars p (head_text table d h)
head-vars table p d (Con c) = refl
head-vars table p d (Int z) = refl
head-vars table p d (Str s) = refl
head-vars table p d (Name n) = refl
head-vars table p d (Bound i) = refl
head-vars table p d (Var v) = refl

-- renaming leaves constants
infix-vars : (p : ℕ → ℕ) (t : Term) → infix_of (vars p t) ≡ infix_of t
infix-vars p (Lam b) = refl
infix-vars p (At h) = refl
infix-vars p (App (At (Con c)) a) = refl
infix-vars p (App (At _) a) = refl
infix-vars p (App (Lam b) a) = refl
infix-vars p (App (App f b) a) = refl

-- of brackets
abstraction-vars : (p : ℕ → ℕ) (k : Form) (ps : List Part) → abstraction_form k (map (part_vars p) ps) ≡ map (part_vars p) (abstraction_form k ps)
abstraction-vars p top ps = refl
abstraction-vars p inner ps = ap (λ (zs : List Part). Bytes (40 ∷ []) ∷ zs) (sym (map-++ (part_vars p) ps (Bytes (41 ∷ []) ∷ [])))
abstraction-vars p front ps = ap (λ (zs : List Part). Bytes (40 ∷ []) ∷ zs) (sym (map-++ (part_vars p) ps (Bytes (41 ∷ []) ∷ [])))
abstraction-vars p left ps = ap (λ (zs : List Part). Bytes (40 ∷ []) ∷ zs) (sym (map-++ (part_vars p) ps (Bytes (41 ∷ []) ∷ [])))

-- of brackets
bracketed-vars : (p : ℕ → ℕ) (ps : List Part) → bracketed (map (part_vars p) ps) ≡ map (part_vars p) (bracketed ps)
bracketed-vars p ps = abstraction-vars p inner ps

-- what follows the front of an application
joined-vars : (p : ℕ → ℕ) (xs xs' rest rest' : List Part) → xs' ≡ map (part_vars p) xs → rest' ≡ map (part_vars p) rest → xs' ++ rest' ≡ map (part_vars p) (xs ++ rest)
joined-vars p xs xs' rest rest' e d = ap₂ (λ (a : List Part) (b : List Part). a ++ b) e d ∙ sym (map-++ (part_vars p) xs rest)

-- what an application is printed as, by the infix constant before its last argument
abbrev pub chosen : Option ℕ → List Part → (ℕ → List Part) → List Part
chosen o xs ys = elim o [ None ↦ xs | Some c ↦ ys c ]

-- of either form
chosen-same : (p : ℕ → ℕ) (o : Option ℕ) (xs xs' : List Part) (ys ys' : ℕ → List Part) → xs' ≡ map (part_vars p) xs → ((c : ℕ) → ys' c ≡ map (part_vars p) (ys c)) → chosen o xs' ys' ≡ map (part_vars p) (chosen o xs ys)
chosen-same p None xs xs' ys ys' e d = e
chosen-same p (Some c) xs xs' ys ys' e d = d c

-- the same, where the constants are equal
chosen-vars : (p : ℕ → ℕ) (o o' : Option ℕ) → o' ≡ o → (xs xs' : List Part) (ys ys' : ℕ → List Part) → xs' ≡ map (part_vars p) xs → ((c : ℕ) → ys' c ≡ map (part_vars p) (ys c)) → chosen o' xs' ys' ≡ map (part_vars p) (chosen o xs ys)
chosen-vars p o o' q xs xs' ys ys' e d = ap (λ (r : Option ℕ). chosen r xs' ys') q ∙ chosen-same p o xs xs' ys ys' e d

module _ (table : List (List ℕ)) (p : ℕ → ℕ) where
  app-vars : (f a : Term) → ((k : Form) (d : ℕ) → term_parts table (vars p f) k d ≡ map (part_vars p) (term_parts table f k d))
      → ((k : Form) (d : ℕ) → term_parts table (vars p a) k d ≡ map (part_vars p) (term_parts table a k d))
      → (k : Form) (d : ℕ) → term_parts table (vars p (App f a)) k d ≡ map (part_vars p) (term_parts table (App f a) k d)
  app-vars f a hf ha k d = go k
    where
      plain : (term_parts table (vars p f) front d ++ (space ∷ term_parts table (vars p a) inner d)) ≡ map (part_vars p) (term_parts table f front d ++ (space ∷ term_parts table a inner d))
      plain = joined-vars p (term_parts table f front d) (term_parts table (vars p f) front d) (space ∷ term_parts table a inner d) (space ∷ term_parts table (vars p a) inner d) (hf front d) (ap (λ (zs : List Part). space ∷ zs) (ha inner d))

      between : (c : ℕ) → (term_parts table (vars p f) left d ++ (space ∷ Bytes (symbol table c) ∷ space ∷ term_parts table (vars p a) inner d)) ≡ map (part_vars p) (term_parts table f left d ++ (space ∷ Bytes (symbol table c) ∷ space ∷ term_parts table a inner d))
      between c = joined-vars p (term_parts table f left d) (term_parts table (vars p f) left d) (space ∷ Bytes (symbol table c) ∷ space ∷ term_parts table a inner d) (space ∷ Bytes (symbol table c) ∷ space ∷ term_parts table (vars p a) inner d) (hf left d) (ap (λ (zs : List Part). space ∷ Bytes (symbol table c) ∷ space ∷ zs) (ha inner d))

      whole : term_parts table (vars p (App f a)) top d ≡ map (part_vars p) (term_parts table (App f a) top d)
      whole = chosen-vars p (infix_of f) (infix_of (vars p f)) (infix-vars p f)
          (term_parts table f front d ++ (space ∷ term_parts table a inner d)) (term_parts table (vars p f) front d ++ (space ∷ term_parts table (vars p a) inner d))
          (λ c. term_parts table f left d ++ (space ∷ Bytes (symbol table c) ∷ space ∷ term_parts table a inner d)) (λ c. term_parts table (vars p f) left d ++ (space ∷ Bytes (symbol table c) ∷ space ∷ term_parts table (vars p a) inner d))
          plain between

      go : (k : Form) → term_parts table (vars p (App f a)) k d ≡ map (part_vars p) (term_parts table (App f a) k d)
      go top = whole
      go inner = ap bracketed whole ∙ bracketed-vars p (term_parts table (App f a) top d)
      go front = plain
      go left = ha inner d

  -- renamed variables in a term are renamed variables in its text
  pub parts-vars : (t : Term) (k : Form) (d : ℕ) → term_parts table (vars p t) k d ≡ map (part_vars p) (term_parts table t k d)
  parts-vars (Lam b) k d = ap (λ (zs : List Part). abstraction_form k (binder d ∷ zs)) (parts-vars b top (suc d)) ∙ abstraction-vars p k (binder d ∷ term_parts table b top (suc d))
  parts-vars (At h) k d = ap (λ (z : Part). z ∷ []) (head-vars table p d h)
  parts-vars (App f a) k d = app-vars f a (parts-vars f) (parts-vars a) k d

-- places among renamed variables
place-vars : (p : ℕ → ℕ) → ((a b : ℕ) → nat_eq (p a) (p b) ≡ nat_eq a b) → (v : ℕ) (ws : List ℕ) → place_of (p v) (map p ws) ≡ place_of v ws
place-vars p one v [] = refl
place-vars p one v (w ∷ ws) = ap₂ (λ (b : Bool) (n : ℕ). cond {A = ℕ} b 0 (suc n)) (one v w) (place-vars p one v ws)

-- a renamed variable among renamed ones
any-vars : (p : ℕ → ℕ) → ((a b : ℕ) → nat_eq (p a) (p b) ≡ nat_eq a b) → (v : ℕ) (ws : List ℕ) → list_any (nat_eq (p v)) (map p ws) ≡ list_any (nat_eq v) ws
any-vars p one v [] = refl
any-vars p one v (w ∷ ws) = ap₂ (λ (b : Bool) (c : Bool). b || c) (one v w) (any-vars p one v ws)

-- one more variable that was seen
seen-vars : (p : ℕ → ℕ) → ((a b : ℕ) → nat_eq (p a) (p b) ≡ nat_eq a b) → (v : ℕ) (ws : List ℕ) → seen_also (p v) (map p ws) ≡ map p (seen_also v ws)
seen-vars p one v ws = ap (λ (b : Bool). cond b (map p ws) (map p ws ++ p v ∷ [])) (any-vars p one v ws) ∙ go (list_any (nat_eq v) ws)
  where
    go : (b : Bool) → cond b (map p ws) (map p ws ++ p v ∷ []) ≡ map p (cond b ws (ws ++ v ∷ []))
    go true = refl
    go false = sym (map-++ p ws (v ∷ []))

-- numbers by first place don't depend on the numbers of variables
pub numbered-vars : (p : ℕ → ℕ) → ((a b : ℕ) → nat_eq (p a) (p b) ≡ nat_eq a b) → (seen : List ℕ) (ps : List Part) → numbered (map p seen) (map (part_vars p) ps) ≡ numbered seen ps
numbered-vars p one seen [] = refl
numbered-vars p one seen (Bytes bs ∷ ps) = ap (λ (zs : List ℕ). bs ++ zs) (numbered-vars p one seen ps)
numbered-vars p one seen (Free v ∷ ps) = ap₂ (λ (n : ℕ) (zs : List ℕ). 63 ∷ decimal n ++ zs) (place-vars p one v seen) (ap (λ (ws : List ℕ). numbered ws (map (part_vars p) ps)) (seen-vars p one v seen) ∙ numbered-vars p one (seen_also v seen) ps)

-- the text of a term, its variables renamed one to one
pub text-vars : (table : List (List ℕ)) (p : ℕ → ℕ) → ((a b : ℕ) → nat_eq (p a) (p b) ≡ nat_eq a b) → (t : Term) → text_of (term_parts table (vars p t) top 0) ≡ text_of (term_parts table t top 0)
text-vars table p one t = ap (λ (ps : List Part). text_of ps) (parts-vars table p t top 0) ∙ numbered-vars p one [] (term_parts table t top 0)
