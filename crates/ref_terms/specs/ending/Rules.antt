-- Each rule of unification goes on with smaller numbers, or ends.
use Rattle.std.proofs.Common.{◌≡◌, ℕ, zero, suc, ◌+◌, ◌≤◌, ◌<◌, Bool, true, false, cond, ◌&&◌, not, nat_eq, nat_lt, refl, sym, ap, ◌∙◌, subst, List, [], ◌∷◌, ◌++◌, map, length, filter, arith, Option, Some, None, ◌⊎◌, inl, inr, eqb-true}
use Rattle.ref_terms.specs.terms.Term.{Term, Lam, At, App, Head, Con, Name, Var}
use Rattle.ref_terms.specs.terms.Apply.{apply}
use Rattle.ref_terms.specs.terms.Built.{IsBuilt}
use Rattle.ref_terms.specs.terms.Occurs.{is_variable, occurs, has_name}
use Rattle.ref_terms.specs.lemmas.FillLemmas.{built-apply}
use Rattle.ref_terms.specs.unification.Spine.{args_of, head_of, apply_all}
use Rattle.ref_terms.specs.unification.Shape.{Shape, Abstraction, Redex, Rigid, Flex, headed, shape}
use Rattle.ref_terms.specs.unification.Pattern.{SpineName, spine_name, same_name, add_distinct, pattern_of, names_of}
use Rattle.std.specs.List.{list_any}
use Rattle.ref_terms.specs.unification.Closing.{close, close_all, up_from, keeping}
use Rattle.ref_terms.specs.unification.Offence.{Verdict, fine, redex, scope, itself, foreign, dropped, of_rigid, other_spine, of_flexible, arguments, offence, along}
use Rattle.ref_terms.specs.unification.Problem.{Equation, Problem, Clashed, Faulted, Pattern_fault, Step, Goes, Ends}
use Rattle.ref_terms.specs.unification.Bind.{inst_equation, bind_fresh}
use Rattle.ref_terms.specs.unification.Positions.{agreeing, shared, positions_of, all_but}
use Rattle.ref_terms.specs.unification.Rules.{same_variable, two_variables, by_verdict, bind_to, flex_flex, head_eq, equations_of, rule}
use Rattle.ref_terms.specs.ending.Fits.{FitsHead, Fits}
use Rattle.ref_terms.specs.ending.Measure.{Downward, fits-apply, Loose, loose-apply, HeadIsNot, size, size-positive, size-opened, size-named}
use Rattle.ref_terms.specs.ending.Bounds.{mem, eq-self, eq-swap}
use Rattle.ref_terms.specs.ending.OffenceLemmas.{fits-head, Told, told-along, KeepsAll, other-keeps}
use Rattle.ref_terms.specs.lemmas.NameLemmas.{close-apply, nameless-apply}
use Rattle.ref_terms.specs.ending.Progress.{AllFit, Midway, sizes, all-good, all-append, AreBuilt, built-append, built-map, sizes-renamed, room_of, Here, here-down, Moves, bound_away, met, kept_rest, kept_first}

-- what a shape says
abbrev pub Frozen : ℕ → Head → Type 0
Frozen m (Var v) = nat_lt v m ≡ true
Frozen m (Con c) = Unit {0}
Frozen m _ = Unit {0}

-- what a shape says of its term
abbrev pub Shaped : ℕ → Term → Shape → Type 0
Shaped m t Abstraction = (b : Term) × (t ≡ Lam b)
Shaped m t Redex = Unit {0}
Shaped m t (Rigid h xs) = (head_of t ≡ Some h) × (args_of t ≡ xs) × Frozen m h
Shaped m t (Flex v xs) = (head_of t ≡ Some (Var v)) × (args_of t ≡ xs) × (nat_lt v m ≡ false)

headed-is : (m : ℕ) (t : Term) (o : Option Head) (xs : List Term) → head_of t ≡ o → args_of t ≡ xs → Shaped m t (headed m o xs)
headed-is m t (Some (Var v)) xs e d = go (nat_lt v m) refl
  where
    go : (b : Bool) → nat_lt v m ≡ b → Shaped m t (cond b (Rigid (Var v) xs) (Flex v xs))
    go true k = (e, d, k)
    go false k = (e, d, k)
headed-is m t (Some (Con c)) xs e d = (e, d, tt)
headed-is m t (Some _) xs e d = (e, d, tt)
headed-is m t None xs e d = tt

pub shape-is : (m : ℕ) (t : Term) → Shaped m t (shape m t)
shape-is m (Lam b) = (b, refl)
shape-is m (At h) = headed-is m (At h) (Some h) [] refl refl
shape-is m (App f a) = headed-is m (App f a) (head_of f) (args_of f ++ a ∷ []) refl refl

head-is-not : (t : Term) (h : Head) (y : ℕ) → head_of t ≡ Some h → is_variable y h ≡ false → HeadIsNot y t
head-is-not (Lam b) h y e n = tt
head-is-not (At k) h y e n = let same : k ≡ h = let z : Some k ≡ Some h = e in cc in subst (λ q. is_variable y q ≡ false) (sym same) n
head-is-not (App f a) h y e n = head-is-not f h y e n

frozen-differs : (m : ℕ) (h : Head) (y : ℕ) → Frozen m h → nat_lt y m ≡ false → is_variable y h ≡ false
frozen-differs m (Var v) y f n = go (nat_eq y v) refl
  where
    go : (b : Bool) → nat_eq y v ≡ b → b ≡ false
    go true e = let same : y ≡ v = eqb-true _ _ e in let k : nat_lt y m ≡ true = subst (λ z. nat_lt z m ≡ true) (sym same) f in sym k ∙ n
    go false e = refl
frozen-differs m (Con c) y f n = refl
frozen-differs m _ y f n = refl

-- arguments
abbrev pub AllArgs : (ℕ → ℕ → Type 0) → List Term → Type 0
AllArgs P [] = Unit {0}
AllArgs P (x ∷ xs) = Fits P 0 x × AllArgs P xs

args-append : (P : ℕ → ℕ → Type 0) (xs : List Term) (a : Term) → AllArgs P xs → Fits P 0 a → AllArgs P (xs ++ a ∷ [])
args-append P [] a v w = (w, tt)
args-append P (x ∷ xs) a v w = (v.0, args-append P xs a v.1 w)

args-fit : (P : ℕ → ℕ → Type 0) (t : Term) → Loose P t → AllArgs P (args_of t)
args-fit P (Lam b) w = tt
args-fit P (At h) w = tt
args-fit P (App f a) w = args-append P (args_of f) a (args-fit P f w.0) w.1

equations-fit : (P : ℕ → ℕ → Type 0) (n : ℕ) (xs ys : List Term) → AllArgs P xs → AllArgs P ys → AllFit P (equations_of n xs ys)
equations-fit P n (x ∷ xs) (y ∷ ys) v w = ((v.0, w.0), equations-fit P n xs ys v.1 w.1)
equations-fit P n [] ys v w = tt
equations-fit P n (x ∷ xs) [] v w = tt

-- arguments that are built
abbrev pub ArgsBuilt : List Term → Type 0
ArgsBuilt [] = Unit {0}
ArgsBuilt (x ∷ xs) = IsBuilt x × ArgsBuilt xs

args-built : (t : Term) → IsBuilt t → ArgsBuilt (args_of t)
args-built (Lam b) w = tt
args-built (At h) w = tt
args-built (App f a) w = more (args_of f) (args-built f w.0)
  where
    more : (xs : List Term) → ArgsBuilt xs → ArgsBuilt (xs ++ a ∷ [])
    more [] v = (w.1, tt)
    more (x ∷ xs) v = (v.0, more xs v.1)

equations-built : (n : ℕ) (xs ys : List Term) → ArgsBuilt xs → ArgsBuilt ys → AreBuilt (equations_of n xs ys)
equations-built n (x ∷ xs) (y ∷ ys) v w = ((v.0, w.0), equations-built n xs ys v.1 w.1)
equations-built n [] ys v w = tt
equations-built n (x ∷ xs) [] v w = tt

-- the size of all arguments
abbrev pub arg_sizes : List Term → ℕ
arg_sizes [] = 0
arg_sizes (x ∷ xs) = size x + arg_sizes xs

arg_sizes-append : (xs : List Term) (a : Term) → arg_sizes (xs ++ a ∷ []) ≡ arg_sizes xs + size a
arg_sizes-append [] a = omega arith
arg_sizes-append (x ∷ xs) a = let k : arg_sizes (xs ++ a ∷ []) ≡ arg_sizes xs + size a = arg_sizes-append xs a in omega arith

size-spine : (t : Term) (h : Head) → head_of t ≡ Some h → size t ≡ suc (arg_sizes (args_of t))
size-spine (Lam b) h e = absurd (let z : None ≡ Some h = e in cc)
size-spine (At k) h e = refl
size-spine (App f a) h e = let k : size f ≡ suc (arg_sizes (args_of f)) = size-spine f h e in let l : arg_sizes (args_of f ++ a ∷ []) ≡ arg_sizes (args_of f) + size a = arg_sizes-append (args_of f) a in omega arith

sizes-equations : (n : ℕ) (xs ys : List Term) (es : List Equation) → sizes (equations_of n xs ys ++ es) ≤ (arg_sizes xs + arg_sizes ys) + sizes es
sizes-equations n (x ∷ xs) (y ∷ ys) es = let k : sizes (equations_of n xs ys ++ es) ≤ (arg_sizes xs + arg_sizes ys) + sizes es = sizes-equations n xs ys es in omega arith
sizes-equations n [] ys es = omega arith
sizes-equations n (x ∷ xs) [] es = omega arith

-- positions
pub pattern-length : (xs : List Term) (ks : List SpineName) → pattern_of xs ≡ Some ks → length ks ≡ length xs
pattern-length [] ks e = let z : Some [] ≡ Some ks = e in let d : [] ≡ ks = cc in ap length (sym d)
pattern-length (t ∷ ts) ks e = go (spine_name t) (pattern_of ts) refl (λ q d. pattern-length ts q d) e
  where
    deep : (k : SpineName) (q : List SpineName) → length q ≡ length ts → (b : Bool) → cond b None (Some (k ∷ q)) ≡ Some ks → length ks ≡ suc (length ts)
    deep k q i true e = absurd (let z : None ≡ Some ks = e in cc)
    deep k q i false e = let z : Some (k ∷ q) ≡ Some ks = e in let d : k ∷ q ≡ ks = cc in ap length (sym d) ∙ ap suc i

    go : (k : Option SpineName) (q : Option (List SpineName)) → pattern_of ts ≡ q → ((q : List SpineName) → pattern_of ts ≡ Some q → length q ≡ length ts) → add_distinct k q ≡ Some ks → length ks ≡ suc (length ts)
    go (Some k) (Some q) c i e = deep k q (i q c) (list_any (same_name k) q) e
    go (Some k) None c i e = absurd (let z : None ≡ Some ks = e in cc)
    go None q c i e = absurd (let z : None ≡ Some ks = e in cc)

agreeing-length : (i : ℕ) (xs ys : List SpineName) → length (agreeing i xs ys) ≤ length xs
agreeing-length i (a ∷ xs) (c ∷ ys) = go (agreeing-length (suc i) xs ys) (same_name a c)
  where
    go : length (agreeing (suc i) xs ys) ≤ length xs → (b : Bool) → length (cond b (i ∷ agreeing (suc i) xs ys) (agreeing (suc i) xs ys)) ≤ suc (length xs)
    go k true = omega arith
    go k false = omega arith
agreeing-length i [] ys = omega arith
agreeing-length i (a ∷ xs) [] = omega arith

agreeing-cases : (i : ℕ) (xs ys : List SpineName) → length xs ≡ length ys → (length (agreeing i xs ys) < length xs) ⊎ (agreeing i xs ys ≡ up_from i (length xs))
agreeing-cases i (a ∷ xs) (c ∷ ys) e = go (agreeing-cases (suc i) xs ys (omega arith)) (agreeing-length (suc i) xs ys) (same_name a c)
  where
    go : (length (agreeing (suc i) xs ys) < length xs) ⊎ (agreeing (suc i) xs ys ≡ up_from (suc i) (length xs)) → length (agreeing (suc i) xs ys) ≤ length xs → (b : Bool)
        → (length (cond b (i ∷ agreeing (suc i) xs ys) (agreeing (suc i) xs ys)) < suc (length xs)) ⊎ (cond b (i ∷ agreeing (suc i) xs ys) (agreeing (suc i) xs ys) ≡ i ∷ up_from (suc i) (length xs))
    go (inl h) k true = inl (omega arith)
    go (inr d) k true = inr (ap (λ (zs : List ℕ). i ∷ zs) d)
    go h k false = inl (omega arith)
agreeing-cases i [] ys e = inr refl
agreeing-cases i (a ∷ xs) [] e = absurd (omega arith)

-- all but one of the positions
but-length : (i k n : ℕ) → length (filter (λ j. not (nat_eq i j)) (up_from k n)) ≤ n
but-length i k zero = omega arith
but-length i k (suc n) = go (but-length i (suc k) n) (nat_eq i k)
  where
    go : length (filter (λ j. not (nat_eq i j)) (up_from (suc k) n)) ≤ n → (b : Bool) → length (cond (not b) (k ∷ filter (λ j. not (nat_eq i j)) (up_from (suc k) n)) (filter (λ j. not (nat_eq i j)) (up_from (suc k) n))) ≤ suc n
    go h true = omega arith
    go h false = omega arith

but-shorter : (i k n : ℕ) → k ≤ i → i < k + n → length (filter (λ j. not (nat_eq i j)) (up_from k n)) < n
but-shorter i k zero l far = absurd (omega arith)
but-shorter i k (suc n) l far = go (but-length i (suc k) n) (λ a b. but-shorter i (suc k) n a b) (nat_eq i k) refl
  where
    go : length (filter (λ j. not (nat_eq i j)) (up_from (suc k) n)) ≤ n → (suc k ≤ i → i < suc k + n → length (filter (λ j. not (nat_eq i j)) (up_from (suc k) n)) < n) → (b : Bool) → nat_eq i k ≡ b → length (cond (not b) (k ∷ filter (λ j. not (nat_eq i j)) (up_from (suc k) n)) (filter (λ j. not (nat_eq i j)) (up_from (suc k) n))) < suc n
    go h r true e = omega arith
    go h r false e =
        let apart : i ≡ k → ⊥ = λ q. let x : nat_eq i i ≡ false = subst (λ z. nat_eq i z ≡ false) (sym q) e in let y : true ≡ false = sym (eq-self i) ∙ x in absurd (cc) in
        let h' : length (filter (λ j. not (nat_eq i j)) (up_from (suc k) n)) < n = r (omega arith) (omega arith) in
        omega arith

-- a variable over all positions is the variable
pub keeping-again : (i n : ℕ) (t : Term) → IsBuilt t → ((k : ℕ) → i ≤ k → has_name k t ≡ false) → close_all (up_from i n) (apply_all t (map (λ j. At (Name j)) (up_from i n))) ≡ t
keeping-again i zero t w a = refl
keeping-again i (suc n) t w a = ap (close i) (keeping-again (suc i) n (apply t (At (Name i))) (built-apply t (At (Name i)) w tt) absent) ∙ close-apply i t w (a i (omega arith))
  where
    other : (k : ℕ) → suc i ≤ k → (b : Bool) → nat_eq k i ≡ b → b ≡ false
    other k h true e = absurd (let same : k ≡ i = eqb-true _ _ e in omega arith)
    other k h false e = refl

    absent : (k : ℕ) → suc i ≤ k → has_name k (apply t (At (Name i))) ≡ false
    absent k h = nameless-apply k t (At (Name i)) (a k (omega arith)) (other k h (nat_eq k i) refl)

pub keeping-all : (n v : ℕ) → keeping n (up_from 0 n) v ≡ At (Var v)
keeping-all n v = keeping-again 0 n (At (Var v)) tt (λ k h. refl)

-- what the offence of a whole side says
abbrev pub TopTold : (P : ℕ → ℕ → Type 0) → ℕ → Term → Verdict → Type 0
TopTold P x t fine = occurs x t ≡ false
TopTold P x t (dropped y i n) = P y n × (i < n) × (nat_eq x y ≡ false) × HeadIsNot y t
TopTold P x t redex = Unit {0}
TopTold P x t scope = Unit {0}
TopTold P x t itself = Unit {0}
TopTold P x t foreign = Unit {0}

frozen-rigid : (m : ℕ) (h : Head) (xs : List Term) → Frozen m h → arguments m (Some h) xs ≡ of_rigid
frozen-rigid m (Var v) xs f = rw f refl
frozen-rigid m (Con c) xs f = refl
frozen-rigid m _ xs f = refl

module _ (P : ℕ → ℕ → Type 0) (down : Downward P) (m x : ℕ) (ns : List ℕ) where
  told-rigid : (t : Term) (h : Head) → head_of t ≡ Some h → Frozen m h → Loose P t → TopTold P x t (offence m x ns false t)
  told-rigid t h e f w = pass (offence m x ns false t) (by_cases t h e f w)
    where
      pass : (v : Verdict) → Told P down m x ns false (occurs x t ≡ false) v → TopTold P x t v
      pass fine a = a
      pass (dropped y i n) a = (a.0, a.1, a.3, head-is-not t h y e (frozen-differs m h y f a.2))
      pass redex a = tt
      pass scope a = tt
      pass itself a = tt
      pass foreign a = tt

      by_cases : (t : Term) (h : Head) → head_of t ≡ Some h → Frozen m h → Loose P t → Told P down m x ns false (occurs x t ≡ false) (offence m x ns false t)
      by_cases (Lam b) h e f w = absurd (let z : None ≡ Some h = e in cc)
      by_cases (At k) h e f w = told-along P down m x ns (At k) false of_rigid w
      by_cases (App g a) h e f w =
          let k : arguments m (head_of g) (args_of g ++ a ∷ []) ≡ of_rigid = ap (λ o. arguments m o (args_of g ++ a ∷ [])) e ∙ frozen-rigid m h (args_of g ++ a ∷ []) f in
          subst (λ s. Told P down m x ns false (occurs x (App g a) ≡ false) (along m x ns false s (App g a))) (sym k) (told-along P down m x ns (App g a) false of_rigid w)

  told-other : (t : Term) (v : ℕ) → head_of t ≡ Some (Var v) → nat_lt v m ≡ false → pattern_of (args_of t) ≡ None → Loose P t → TopTold P x t (offence m x ns false t)
  told-other (Lam b) v e f q w = absurd (let z : None ≡ Some (Var v) = e in cc)
  told-other (At k) v e f q w = absurd (let z : Some [] ≡ None = q in cc)
  told-other (App g a) v e f q w = subst (λ s. TopTold P x (App g a) (along m x ns false s (App g a))) (sym k) (pass (along m x ns false other_spine (App g a)) (told-along P down m x ns (App g a) false other_spine w) (other-keeps P down m x ns (App g a) false w))
    where
      k : arguments m (head_of g) (args_of g ++ a ∷ []) ≡ other_spine
      k = ap (λ o. arguments m o (args_of g ++ a ∷ [])) e ∙ ap (λ b. cond b of_rigid (of_flexible v (args_of g ++ a ∷ []) (pattern_of (args_of g ++ a ∷ [])))) f ∙ ap (of_flexible v (args_of g ++ a ∷ [])) q

      pass : (v : Verdict) → Told P down m x ns false (occurs x (App g a) ≡ false) v → KeepsAll P down m x ns v → TopTold P x (App g a) v
      pass fine b c = b
      pass (dropped y i n) b c = absurd c
      pass redex b c = tt
      pass scope b c = tt
      pass itself b c = tt
      pass foreign b c = tt

-- a rule, where the first equation is e
module _ (vs : List ℕ) (b : ℕ → ℕ) (m : ℕ) (e : Equation) (es : List Equation) (p : Problem) (here : Midway (Here vs b) e) (others : AllFit (Here vs b) es) (u : ℕ) (built : u ≡ 0 → AreBuilt (e ∷ es)) where
  -- what is shown of a rule
  abbrev pub Result : Step → Type 0
  Result = Moves (length vs) (room_of b vs u) (sizes (e ∷ es))

  by_verdict-moves : (v : ℕ) (ns : List ℕ) (t : Term) → mem v vs ≡ true → Loose (Here vs b) t → ((y : ℕ) → nat_eq v y ≡ false → HeadIsNot y t → HeadIsNot y e.left × HeadIsNot y e.right) → (w : Verdict) → TopTold (Here vs b) v t w → Result (by_verdict v ns t e es p w)
  by_verdict-moves v ns t k l h fine w = bound_away vs b (room_of b vs u) (sizes (e ∷ es)) p v ns t es k w l others
  by_verdict-moves v ns t k l h (dropped y i n) w =
      let heads = h y w.2 w.3 in
      let short : length (all_but i n) < n = but-shorter i 0 n (omega arith) (let z : i < n = w.1 in omega arith) in
      kept_first vs b y n p.next_var (all_but i n) w.0.0 w.0.1 (omega arith) u (sizes (e ∷ es)) p e es here others heads.0 heads.1 short
  by_verdict-moves v ns t k l h redex w = tt
  by_verdict-moves v ns t k l h scope w = tt
  by_verdict-moves v ns t k l h itself w = tt
  by_verdict-moves v ns t k l h foreign w = tt

  flex-member : (t : Term) (v : ℕ) → head_of t ≡ Some (Var v) → Loose (Here vs b) t → mem v vs ≡ true
  flex-member (Lam c) v d w = absurd (let z : None ≡ Some (Var v) = d in cc)
  flex-member (At h) v d w = let same : h ≡ Var v = let z : Some h ≡ Some (Var v) = d in cc in (subst (λ q. FitsHead (Here vs b) 0 q) same w).0
  flex-member (App f a) v d w = flex-member f v d w.0

  head-away : (t : Term) (v y : ℕ) → head_of t ≡ Some (Var v) → nat_eq v y ≡ false → HeadIsNot y t
  head-away t v y d n = head-is-not t (Var v) y d (eq-swap v y n)

  -- on the left, and on the right
  left-rigid : (v : ℕ) (h : Head) (o : Option (List SpineName)) → head_of e.left ≡ Some (Var v) → head_of e.right ≡ Some h → Frozen m h → Result (bind_to m v o e.right e es p)
  left-rigid v h None d c f = tt
  left-rigid v h (Some ks) d c f = by_verdict-moves v (names_of ks) e.right (flex-member e.left v d here.left) here.right (λ y n k. (head-away e.left v y d n, k)) (offence m v (names_of ks) false e.right) (told-rigid (Here vs b) (here-down vs b) m v (names_of ks) e.right h c f here.right)

  right-rigid : (v : ℕ) (h : Head) (o : Option (List SpineName)) → head_of e.right ≡ Some (Var v) → head_of e.left ≡ Some h → Frozen m h → Result (bind_to m v o e.left e es p)
  right-rigid v h None d c f = tt
  right-rigid v h (Some ks) d c f = by_verdict-moves v (names_of ks) e.left (flex-member e.right v d here.right) here.left (λ y n k. (k, head-away e.right v y d n)) (offence m v (names_of ks) false e.left) (told-rigid (Here vs b) (here-down vs b) m v (names_of ks) e.left h c f here.left)

  left-other : (v w : ℕ) (o : Option (List SpineName)) → head_of e.left ≡ Some (Var v) → head_of e.right ≡ Some (Var w) → nat_lt w m ≡ false → pattern_of (args_of e.right) ≡ None → Result (bind_to m v o e.right e es p)
  left-other v w None d c f q = tt
  left-other v w (Some ks) d c f q = by_verdict-moves v (names_of ks) e.right (flex-member e.left v d here.left) here.right (λ y n k. (head-away e.left v y d n, k)) (offence m v (names_of ks) false e.right) (told-other (Here vs b) (here-down vs b) m v (names_of ks) e.right w c f q here.right)

  right-other : (v w : ℕ) (o : Option (List SpineName)) → head_of e.right ≡ Some (Var v) → head_of e.left ≡ Some (Var w) → nat_lt w m ≡ false → pattern_of (args_of e.left) ≡ None → Result (bind_to m v o e.left e es p)
  right-other v w None d c f q = tt
  right-other v w (Some ks) d c f q = by_verdict-moves v (names_of ks) e.left (flex-member e.right v d here.right) here.left (λ y n k. (k, head-away e.right v y d n)) (offence m v (names_of ks) false e.left) (told-other (Here vs b) (here-down vs b) m v (names_of ks) e.left w c f q here.left)

  -- one variable on both sides
  enough : (v w : ℕ) (ks ls : List SpineName) → head_of e.left ≡ Some (Var v) → head_of e.right ≡ Some (Var w) → nat_eq v w ≡ true → pattern_of (args_of e.left) ≡ Some ks → pattern_of (args_of e.right) ≡ Some ls → length ks ≡ length ls → length ks ≤ b v
  enough v w ks ls d c s j k l = go here.one
    where
      go : Fits (Here vs b) 0 e.left ⊎ Fits (Here vs b) 0 e.right → length ks ≤ b v
      go (inl f) = let x : length (args_of e.left) + 0 ≤ b v = (fits-head (Here vs b) e.left 0 v d f).1 in let y : length ks ≡ length (args_of e.left) = pattern-length (args_of e.left) ks j in omega arith
      go (inr f) = let x : length (args_of e.right) + 0 ≤ b w = (fits-head (Here vs b) e.right 0 w c f).1 in let y : length ls ≡ length (args_of e.right) = pattern-length (args_of e.right) ls k in let same : v ≡ w = eqb-true _ _ s in let z : b v ≡ b w = ap b same in omega arith

  same-moves : (v : ℕ) (ks ls : List SpineName) → mem v vs ≡ true → (length ks ≡ length ls → length ks ≤ b v) → Result (same_variable v ks ls es p)
  same-moves v ks ls k n = go (nat_eq (length ks) (length ls)) refl
    where
      f : ℕ
      f = p.next_var

      least : length (agreeing 0 ks ls) ≤ length ks
      least = agreeing-length 0 ks ls

      renamed : keeping (length ks) (agreeing 0 ks ls) p.next_var ≡ At (Var p.next_var) → (w : ℕ) → u ≡ w → (0 < u) ⊎ (sizes (map (inst_equation v (keeping (length ks) (agreeing 0 ks ls) p.next_var)) es) < sizes (e ∷ es))
      renamed k zero d =
          let x : sizes (map (inst_equation v (At (Var p.next_var))) es) ≡ sizes es = sizes-renamed v p.next_var es (built d).1 in
          let y : sizes (map (inst_equation v (keeping (length ks) (agreeing 0 ks ls) p.next_var)) es) ≡ sizes (map (inst_equation v (At (Var p.next_var))) es) = ap (λ z. sizes (map (inst_equation v z) es)) k in
          let l : 0 < size e.left = size-positive e.left in
          inr (omega arith)
      renamed k (suc w) d = inl (omega arith)

      small : (length (agreeing 0 ks ls) < length ks) ⊎ (agreeing 0 ks ls ≡ up_from 0 (length ks)) → (length (agreeing 0 ks ls) < length ks) ⊎ (AreBuilt (map (inst_equation v (keeping (length ks) (agreeing 0 ks ls) p.next_var)) es) × ((0 < u) ⊎ (sizes (map (inst_equation v (keeping (length ks) (agreeing 0 ks ls) p.next_var)) es) < sizes (e ∷ es))))
      small (inl h) = inl h
      small (inr h) =
          let k : keeping (length ks) (agreeing 0 ks ls) p.next_var ≡ At (Var p.next_var) = ap (λ z. keeping (length ks) z p.next_var) h ∙ keeping-all (length ks) p.next_var in
          inr (subst (λ z. AreBuilt (map (inst_equation v z) es)) (sym k) (built-map v (At (Var p.next_var)) tt es), renamed k u refl)

      go : (r : Bool) → nat_eq (length ks) (length ls) ≡ r → Result (cond r (Goes (bind_fresh v (keeping (length ks) (agreeing 0 ks ls) p.next_var) es p)) (Ends (Clashed false)))
      go true d = let l : length ks ≡ length ls = eqb-true _ _ d in kept_rest vs b v (length ks) p.next_var (agreeing 0 ks ls) k (n l) least u (sizes (e ∷ es)) p es others (small (agreeing-cases 0 ks ls l))
      go false d = tt

  flex-moves : (v w : ℕ) (i o : Option (List SpineName)) → head_of e.left ≡ Some (Var v) → head_of e.right ≡ Some (Var w) → nat_lt v m ≡ false → nat_lt w m ≡ false → pattern_of (args_of e.left) ≡ i → pattern_of (args_of e.right) ≡ o → Result (flex_flex m v w i o e es p)
  flex-moves v w (Some ks) (Some ls) d c f g j k = go (nat_eq v w) refl
    where
      go : (r : Bool) → nat_eq v w ≡ r → Result (cond r (same_variable v ks ls es p) (two_variables v w ks ls es p))
      go true s = same-moves v ks ls (flex-member e.left v d here.left) (λ l. enough v w ks ls d c s j k l)
      go false s = met vs b (room_of b vs u) (sizes (e ∷ es)) p v w (length ks) (length ls) (shared 0 ks ls) (positions_of 0 ks ls) p.next_var es (flex-member e.left v d here.left) (flex-member e.right w c here.right) s others _ refl
  flex-moves v w (Some ks) None d c f g j k = go (nat_eq v w)
    where
      go : (r : Bool) → Result (cond r (Ends (Faulted Pattern_fault)) (bind_to m v (Some ks) e.right e es p))
      go true = tt
      go false = left-other v w (Some ks) d c g k
  flex-moves v w None o d c f g j k = go (nat_eq v w)
    where
      go : (r : Bool) → Result (cond r (Ends (Faulted Pattern_fault)) (bind_to m w o e.left e es p))
      go true = tt
      go false = right-other w v o c d f j

  -- two rigid heads
  rigid-moves : (h k : Head) → head_of e.left ≡ Some h → head_of e.right ≡ Some k → (r : Bool) → Result (cond r (Goes (record p { equations = equations_of e.names (args_of e.left) (args_of e.right) ++ es })) (Ends (Clashed false)))
  rigid-moves h k d c true = record {
    listed = vs;
    bound = b;
    unbuilt = u;
    built = λ z. built-append (equations_of e.names (args_of e.left) (args_of e.right)) es (equations-built e.names (args_of e.left) (args_of e.right) (args-built e.left (built z).0.0) (args-built e.right (built z).0.1)) (built z).1;
    good = all-good (Here vs b) (here-down vs b) (equations_of e.names (args_of e.left) (args_of e.right) ++ es) (all-append (Here vs b) (equations_of e.names (args_of e.left) (args_of e.right)) es (equations-fit (Here vs b) e.names (args_of e.left) (args_of e.right) (args-fit (Here vs b) e.left here.left) (args-fit (Here vs b) e.right here.right)) others);
    falls = inr (
      omega arith,
      omega arith,
      let x : sizes (equations_of e.names (args_of e.left) (args_of e.right) ++ es) ≤ (arg_sizes (args_of e.left) + arg_sizes (args_of e.right)) + sizes es = sizes-equations e.names (args_of e.left) (args_of e.right) es in
          let y : size e.left ≡ suc (arg_sizes (args_of e.left)) = size-spine e.left h d in
          let z : size e.right ≡ suc (arg_sizes (args_of e.right)) = size-spine e.right k c in
          omega arith,
    );
  }
  rigid-moves h k d c false = tt

  -- an abstraction on one side
  opened-fits : (t c : Term) → t ≡ Lam c → Loose (Here vs b) t → Fits (Here vs b) 0 (apply t (At (Name e.names)))
  opened-fits t c d w = subst (λ z. Fits (Here vs b) 0 (apply z (At (Name e.names)))) (sym d) (fits-apply (Here vs b) (Lam c) (At (Name e.names)) 0 (subst (Loose (Here vs b)) d w) tt)

  opened-size : (t c : Term) → t ≡ Lam c → size (apply t (At (Name e.names))) + 2 ≤ size t
  opened-size t c d = let x : size (apply (Lam c) (At (Name e.names))) ≡ size c = size-opened c e.names in let y : size (apply t (At (Name e.names))) ≡ size (apply (Lam c) (At (Name e.names))) = ap (λ z. size (apply z (At (Name e.names)))) d in let z : size t ≡ suc (suc (size c)) = ap size d in omega arith

  -- both sides applied to a fresh name
  abbrev Opened : Step
  Opened = Goes (record p { equations = record { names = suc e.names; left = apply e.left (At (Name e.names)); right = apply e.right (At (Name e.names)) } ∷ es })

  open-moves : Fits (Here vs b) 0 (apply e.left (At (Name e.names))) ⊎ Fits (Here vs b) 0 (apply e.right (At (Name e.names))) → size (apply e.left (At (Name e.names))) + size (apply e.right (At (Name e.names))) < size e.left + size e.right → Result Opened
  open-moves f l = record {
    listed = vs;
    bound = b;
    unbuilt = u;
    built = λ z. ((built-apply e.left (At (Name e.names)) (built z).0.0 tt, built-apply e.right (At (Name e.names)) (built z).0.1 tt), (built z).1);
    good = (record { one = f; left = loose-apply (Here vs b) (here-down vs b) e.left (At (Name e.names)) here.left tt; right = loose-apply (Here vs b) (here-down vs b) e.right (At (Name e.names)) here.right tt }, others);
    falls = inr (omega arith, omega arith, omega arith);
  }

  left-opened : (c : Term) → e.left ≡ Lam c → Result Opened
  left-opened c d = open-moves (inl (opened-fits e.left c d here.left))
      (let x : size (apply e.left (At (Name e.names))) + 2 ≤ size e.left = opened-size e.left c d in
      let y : size (apply e.right (At (Name e.names))) ≤ size e.right + 1 = size-named e.right e.names in omega arith)

  right-opened : (c : Term) → e.right ≡ Lam c → Result Opened
  right-opened c d = open-moves (inr (opened-fits e.right c d here.right))
      (let x : size (apply e.right (At (Name e.names))) + 2 ≤ size e.right = opened-size e.right c d in
      let y : size (apply e.left (At (Name e.names))) ≤ size e.left + 1 = size-named e.left e.names in omega arith)

  pub rule-moves : (s t : Shape) → Shaped m e.left s → Shaped m e.right t → Result (rule m s t e es p)
  rule-moves Redex t x y = tt
  rule-moves Abstraction Redex x y = tt
  rule-moves (Rigid h xs) Redex x y = tt
  rule-moves (Flex v xs) Redex x y = tt
  rule-moves (Rigid h xs) (Rigid k ys) x y = subst (λ (z : List Term). Result (cond (head_eq h k && nat_eq (length z) (length ys)) (Goes (record p { equations = equations_of e.names z ys ++ es })) (Ends (Clashed false)))) x.1
      (subst (λ (z : List Term). Result (cond (head_eq h k && nat_eq (length (args_of e.left)) (length z)) (Goes (record p { equations = equations_of e.names (args_of e.left) z ++ es })) (Ends (Clashed false)))) y.1
      (rigid-moves h k x.0 y.0 (head_eq h k && nat_eq (length (args_of e.left)) (length (args_of e.right)))))
  rule-moves (Flex v xs) (Rigid k ys) x y = left-rigid v k (pattern_of xs) x.0 y.0 y.2
  rule-moves (Rigid h xs) (Flex w ys) x y = right-rigid w h (pattern_of ys) y.0 x.0 x.2
  rule-moves (Flex v xs) (Flex w ys) x y = flex-moves v w (pattern_of xs) (pattern_of ys) x.0 y.0 x.2 y.2 (ap pattern_of x.1) (ap pattern_of y.1)
  rule-moves Abstraction Abstraction x y = left-opened x.0 x.1
  rule-moves Abstraction (Rigid k ys) x y = left-opened x.0 x.1
  rule-moves Abstraction (Flex w ys) x y = left-opened x.0 x.1
  rule-moves (Rigid h xs) Abstraction x y = right-opened y.0 y.1
  rule-moves (Flex v xs) Abstraction x y = right-opened y.0 y.1
