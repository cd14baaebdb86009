-- How many arguments a variable may get, and how large a term is: nothing that rebuilds a term raises these.
use Rattle.std.proofs.Common.{◌≡◌, ℕ, zero, suc, ◌+◌, ◌≤◌, ◌<◌, Bool, true, false, cond, ◌||◌, nat_eq, refl, sym, ap, ap₂, ◌∙◌, subst, Option, Some, None, IfSome, arith, eqb-true}
use Rattle.ref_terms.specs.terms.Term.{Term, Lam, At, App, Head, Con, Int, Str, Name, Bound, Var}
use Rattle.ref_terms.specs.terms.Index.{ren, up, next, shift, under, sub, first}
use Rattle.ref_terms.specs.terms.Eta.{eta, lam, lam_of}
use Rattle.ref_terms.specs.terms.Ready.{ready}
use Rattle.ref_terms.specs.terms.Apply.{apply, below, fill}
use Rattle.ref_terms.specs.terms.Occurs.{is_variable, occurs}
use Rattle.ref_terms.specs.terms.Instance.{only, inst}
use Rattle.ref_terms.specs.lemmas.EtaLemmas.{eta-some}
use Rattle.ref_terms.specs.terms.Built.{IsBuilt, IsStuck}
use Rattle.ref_terms.specs.terms.Renamed.{vars, vars_head}
use Rattle.ref_terms.specs.lemmas.VarsLemmas.{lam-vars, apply-vars}
use Rattle.ref_terms.specs.lemmas.ReadyFacts.{ready-name}
use Rattle.ref_terms.specs.ending.Fits.{FitsHead, before, Fits, fits-ready}
use mathlib.Core.Path.{fun_ext}

-- what may stand before more arguments may stand before fewer
abbrev pub Downward : (ℕ → ℕ → Type 0) → Type 0
Downward P = (v j i : ℕ) → i ≤ j → P v j → P v i

before-less : (i j : ℕ) → i ≤ j → before i ≤ before j
before-less zero j h = omega arith
before-less (suc i) zero h = absurd (omega arith)
before-less (suc i) (suc j) h = omega arith

before-next : (j : ℕ) → j ≤ suc (before j)
before-next zero = omega arith
before-next (suc j) = omega arith

pub fits-less : (P : ℕ → ℕ → Type 0) → Downward P → (t : Term) (i j : ℕ) → i ≤ j → Fits P j t → Fits P i t
fits-less P d (Lam b) i j h w = fits-less P d b (before i) (before j) (before-less i j h) w
fits-less P d (At (Var v)) i j h w = d v j i h w
fits-less P d (At (Con c)) i j h w = tt
fits-less P d (At _) i j h w = tt
fits-less P d (App f a) i j h w = (fits-less P d f (suc i) (suc j) (omega arith) w.0, w.1)

-- another bound
pub fits-map : (P Q : ℕ → ℕ → Type 0) → ((v j : ℕ) → P v j → Q v j) → (t : Term) (j : ℕ) → Fits P j t → Fits Q j t
fits-map P Q k (Lam b) j w = fits-map P Q k b (before j) w
fits-map P Q k (At (Var v)) j w = k v j w
fits-map P Q k (At (Con c)) j w = tt
fits-map P Q k (At _) j w = tt
fits-map P Q k (App f a) j w = (fits-map P Q k f (suc j) w.0, fits-map P Q k a 0 w.1)

pub or_left : (a b : Bool) → (a || b) ≡ false → a ≡ false
or_left false b e = refl
or_left true b e = e

pub or_right : (a b : Bool) → (a || b) ≡ false → b ≡ false
or_right false b e = e
or_right true b e = absurd (let k : true ≡ false = e in cc)

pub or_none : (a b : Bool) → a ≡ false → b ≡ false → (a || b) ≡ false
or_none a b e f = rw (e, f) refl

-- where x doesn't occur, and the bound doesn't look at the arguments
pub fits-lacks : (P Q : ℕ → ℕ → Type 0) (x : ℕ) → ((v i j : ℕ) → nat_eq x v ≡ false → P v i → Q v j) → (t : Term) (i j : ℕ) → occurs x t ≡ false → Fits P i t → Fits Q j t
fits-lacks P Q x k (Lam b) i j e w = fits-lacks P Q x k b (before i) (before j) e w
fits-lacks P Q x k (At (Var v)) i j e w = k v i j e w
fits-lacks P Q x k (At (Con c)) i j e w = tt
fits-lacks P Q x k (At _) i j e w = tt
fits-lacks P Q x k (App f a) i j e w = (fits-lacks P Q x k f (suc i) (suc j) (or_left _ _ e) w.0, fits-lacks P Q x k a 0 0 (or_right _ _ e) w.1)

-- where the bound doesn't look at the arguments
pub fits-any : (P Q : ℕ → ℕ → Type 0) → ((v i j : ℕ) → P v i → Q v j) → (t : Term) (i j : ℕ) → Fits P i t → Fits Q j t
fits-any P Q k (Lam b) i j w = fits-any P Q k b (before i) (before j) w
fits-any P Q k (At (Var v)) i j w = k v i j w
fits-any P Q k (At (Con c)) i j w = tt
fits-any P Q k (At _) i j w = tt
fits-any P Q k (App f a) i j w = (fits-any P Q k f (suc i) (suc j) w.0, fits-any P Q k a 0 0 w.1)

pub fits-ren : (P : ℕ → ℕ → Type 0) (f : ℕ → ℕ) (t : Term) (j : ℕ) → Fits P j t → Fits P j (ren f t)
fits-ren P f (Lam b) j w = fits-ren P (up f) b (before j) w
fits-ren P f (At (Var v)) j w = w
fits-ren P f (At (Con c)) j w = tt
fits-ren P f (At _) j w = tt
fits-ren P f (App g a) j w = (fits-ren P f g (suc j) w.0, fits-ren P f a 0 w.1)

pub fits-unren : (P : ℕ → ℕ → Type 0) (f : ℕ → ℕ) (t : Term) (j : ℕ) → Fits P j (ren f t) → Fits P j t
fits-unren P f (Lam b) j w = fits-unren P (up f) b (before j) w
fits-unren P f (At (Var v)) j w = w
fits-unren P f (At (Con c)) j w = tt
fits-unren P f (At _) j w = tt
fits-unren P f (App g a) j w = (fits-unren P f g (suc j) w.0, fits-unren P f a 0 w.1)

pub fits-sub : (P : ℕ → ℕ → Type 0) (s : ℕ → Term) → ((i j : ℕ) → Fits P j (s i)) → (t : Term) (j : ℕ) → Fits P j t → Fits P j (sub s t)
fits-sub P s k (Lam b) j w = fits-sub P (under s) fits-under b (before j) w
  where
    fits-under : (i j : ℕ) → Fits P j (under s i)
    fits-under zero j = tt
    fits-under (suc n) j = fits-ren P next (s n) j (k n j)
fits-sub P s k (At (Bound i)) j w = k i j
fits-sub P s k (At (Var v)) j w = w
fits-sub P s k (At (Con c)) j w = tt
fits-sub P s k (At _) j w = tt
fits-sub P s k (App f a) j w = (fits-sub P s k f (suc j) w.0, fits-sub P s k a 0 w.1)

pub fits-apply : (P : ℕ → ℕ → Type 0) (f a : Term) (j : ℕ) → Fits P (suc j) f → Fits P 0 a → Fits P j (apply f a)
fits-apply P (Lam b) a j v w = go (ready a) refl
  where
    fits-first : ready a ≡ true → (i j : ℕ) → Fits P j (first a i)
    fits-first e zero j = fits-ready P a e 0 j w
    fits-first e (suc n) j = tt

    go : (r : Bool) → ready a ≡ r → Fits P j (cond r (sub (first a) b) (App (Lam b) a))
    go true e = fits-sub P (first a) (fits-first e) b j v
    go false e = (v, w)
fits-apply P (At h) a j v w = (v, w)
fits-apply P (App f b) a j v w = (v, w)

pub fits-lam : (P : ℕ → ℕ → Type 0) → Downward P → (b : Term) (j : ℕ) → Fits P (before j) b → Fits P j (lam b)
fits-lam P d b j w = go (eta b) (eta-some b)
  where
    go : (o : Option Term) → IfSome o (λ u. b ≡ App (shift u) (At (Bound zero))) → Fits P j (lam_of o b)
    go None h = w
    go (Some u) h = fits-unren P next u j (fits-less P d (shift u) j (suc (before j)) (before-next j) ((subst (Fits P (before j)) h w).0))

-- a replacement keeps what fits at each head
abbrev pub FitsThrough : (ℕ → ℕ → Type 0) → (ℕ → ℕ → Type 0) → (Head → Term) → Type 0
FitsThrough P Q r = (h : Head) (j : ℕ) → FitsHead P j h → Fits Q j (r h)

fits-below : (P Q : ℕ → ℕ → Type 0) (r : Head → Term) → FitsThrough P Q r → FitsThrough P Q (below r)
fits-below P Q r k (Bound zero) j w = tt
fits-below P Q r k (Bound (suc n)) j w = fits-ren Q next (r (Bound n)) j (k (Bound n) j w)
fits-below P Q r k (Con c) j w = fits-ren Q next (r (Con c)) j (k (Con c) j w)
fits-below P Q r k (Int c) j w = fits-ren Q next (r (Int c)) j (k (Int c) j w)
fits-below P Q r k (Str c) j w = fits-ren Q next (r (Str c)) j (k (Str c) j w)
fits-below P Q r k (Name c) j w = fits-ren Q next (r (Name c)) j (k (Name c) j w)
fits-below P Q r k (Var c) j w = fits-ren Q next (r (Var c)) j (k (Var c) j w)

pub fits-fill : (P Q : ℕ → ℕ → Type 0) → Downward Q → (r : Head → Term) → FitsThrough P Q r → (t : Term) (j : ℕ) → Fits P j t → Fits Q j (fill r t)
fits-fill P Q d r k (Lam b) j w = fits-lam Q d (fill (below r) b) j (fits-fill P Q d (below r) (fits-below P Q r k) b (before j) w)
fits-fill P Q d r k (At h) j w = k h j w
fits-fill P Q d r k (App f a) j w = fits-apply Q (fill r f) (fill r a) j (fits-fill P Q d r k f (suc j) w.0) (fits-fill P Q d r k a 0 w.1)

-- one variable replaced
pub fits-only : (P Q : ℕ → ℕ → Type 0) (v : ℕ) (u : Term) → ((j : ℕ) → P v j → Fits Q j u) → ((w j : ℕ) → nat_eq v w ≡ false → P w j → Q w j) → FitsThrough P Q (only v u)
fits-only P Q v u k o (Var w) j h = go (nat_eq v w) refl
  where
    go : (b : Bool) → nat_eq v w ≡ b → Fits Q j (cond b u (At (Var w)))
    go true e = let same : v ≡ w = eqb-true _ _ e in k j (subst (λ z. P z j) (sym same) h)
    go false e = o w j e h
fits-only P Q v u k o (Con c) j h = tt
fits-only P Q v u k o _ j h = tt

pub fits-inst : (P Q : ℕ → ℕ → Type 0) → Downward Q → (v : ℕ) (u : Term) → ((j : ℕ) → P v j → Fits Q j u) → ((w j : ℕ) → nat_eq v w ≡ false → P w j → Q w j) → (t : Term) (j : ℕ) → Fits P j t → Fits Q j (inst v u t)
fits-inst P Q d v u k o t j w = fits-fill P Q d (only v u) (fits-only P Q v u k o) t j w

-- the same, but that nothing is said of the arguments of the head
abbrev pub Loose : (ℕ → ℕ → Type 0) → Term → Type 0
Loose P (Lam b) = Fits P 0 b
Loose P (At h) = FitsHead P 0 h
Loose P (App f a) = Loose P f × Fits P 0 a

pub fits-loose : (P : ℕ → ℕ → Type 0) → Downward P → (t : Term) (j : ℕ) → Fits P j t → Loose P t
fits-loose P d (Lam b) j w = fits-less P d b 0 (before j) (omega arith) w
fits-loose P d (At h) j w = fits-less P d (At h) 0 j (omega arith) w
fits-loose P d (App f a) j w = (fits-loose P d f (suc j) w.0, w.1)

pub loose-apply : (P : ℕ → ℕ → Type 0) → Downward P → (f a : Term) → Loose P f → Fits P 0 a → Loose P (apply f a)
loose-apply P d (Lam b) a v w = fits-loose P d (apply (Lam b) a) 0 (fits-apply P (Lam b) a 0 v w)
loose-apply P d (At h) a v w = (v, w)
loose-apply P d (App f b) a v w = (v, w)

-- the variable isn't at the head
abbrev pub HeadIsNot : ℕ → Term → Type 0
HeadIsNot y (Lam b) = Unit {0}
HeadIsNot y (At h) = is_variable y h ≡ false
HeadIsNot y (App f a) = HeadIsNot y f

pub loose-inst : (P Q : ℕ → ℕ → Type 0) → Downward Q → (v : ℕ) (u : Term) → ((j : ℕ) → P v j → Fits Q j u) → ((w j : ℕ) → nat_eq v w ≡ false → P w j → Q w j) → (t : Term) → HeadIsNot v t → Loose P t → Loose Q (inst v u t)
loose-inst P Q d v u k o (Lam b) n w = fits-loose Q d (inst v u (Lam b)) 0 (fits-inst P Q d v u k o (Lam b) 0 w)
loose-inst P Q d v u k o (At (Var x)) n w = rw n (o x 0 n w)
loose-inst P Q d v u k o (At (Con c)) n w = tt
loose-inst P Q d v u k o (At _) n w = tt
loose-inst P Q d v u k o (App f a) n w = loose-apply Q d (inst v u f) (inst v u a) (loose-inst P Q d v u k o f n w.0) (fits-inst P Q d v u k o a 0 w.1)

pub loose-lacks : (P Q : ℕ → ℕ → Type 0) (x : ℕ) → ((v i j : ℕ) → nat_eq x v ≡ false → P v i → Q v j) → (t : Term) (j : ℕ) → occurs x t ≡ false → Loose P t → Fits Q j t
loose-lacks P Q x k (Lam b) j e w = fits-lacks P Q x k b 0 (before j) e w
loose-lacks P Q x k (At h) j e w = fits-lacks P Q x k (At h) 0 j e w
loose-lacks P Q x k (App f a) j e w = (loose-lacks P Q x k f (suc j) (or_left _ _ e) w.0, fits-lacks P Q x k a 0 0 (or_right _ _ e) w.1)

pub loose-any : (P Q : ℕ → ℕ → Type 0) → ((v i j : ℕ) → P v i → Q v j) → (t : Term) (j : ℕ) → Loose P t → Fits Q j t
loose-any P Q k (Lam b) j w = fits-any P Q k b 0 (before j) w
loose-any P Q k (At h) j w = fits-any P Q k (At h) 0 j w
loose-any P Q k (App f a) j w = (loose-any P Q k f (suc j) w.0, fits-any P Q k a 0 0 w.1)

-- the size: an abstraction counts two, a head one
abbrev pub size : Term → ℕ
size (Lam b) = suc (suc (size b))
size (At h) = 1
size (App f a) = size f + size a

pub size-positive : (t : Term) → 0 < size t
size-positive (Lam b) = omega arith
size-positive (At h) = omega arith
size-positive (App f a) = let x : 0 < size f = size-positive f in omega arith

size-ren : (f : ℕ → ℕ) (t : Term) → size (ren f t) ≡ size t
size-ren f (Lam b) = ap (λ n. suc (suc n)) (size-ren (up f) b)
size-ren f (At (Con c)) = refl
size-ren f (At _) = refl
size-ren f (App g a) = ap₂ (λ (x y : ℕ). x + y) (size-ren f g) (size-ren f a)

size-sub : (s : ℕ → Term) → ((i : ℕ) → size (s i) ≡ 1) → (t : Term) → size (sub s t) ≡ size t
size-sub s k (Lam b) = ap (λ n. suc (suc n)) (size-sub (under s) size-under b)
  where
    size-under : (i : ℕ) → size (under s i) ≡ 1
    size-under zero = refl
    size-under (suc n) = size-ren next (s n) ∙ k n
size-sub s k (At (Bound i)) = k i
size-sub s k (At (Con c)) = refl
size-sub s k (At _) = refl
size-sub s k (App f a) = ap₂ (λ (x y : ℕ). x + y) (size-sub s k f) (size-sub s k a)

size-first : (n i : ℕ) → size (first (At (Name n)) i) ≡ 1
size-first n zero = refl
size-first n (suc i) = refl

-- an abstraction loses two where a name reaches its body
pub size-opened : (b : Term) (n : ℕ) → size (apply (Lam b) (At (Name n))) ≡ size b
size-opened b n = rw (ready-name n) (size-sub (first (At (Name n))) (size-first n) b)

pub size-named : (f : Term) (n : ℕ) → size (apply f (At (Name n))) ≤ size f + 1
size-named (Lam b) n = let x : size (apply (Lam b) (At (Name n))) ≡ size b = size-opened b n in omega arith
size-named (At h) n = omega arith
size-named (App f b) n = omega arith

-- renaming variables in what is built leaves the size
size-vars : (p : ℕ → ℕ) (t : Term) → size (vars p t) ≡ size t
size-vars p (Lam b) = ap (λ n. suc (suc n)) (size-vars p b)
size-vars p (At h) = refl
size-vars p (App f a) = ap₂ (λ (x y : ℕ). x + y) (size-vars p f) (size-vars p a)

renames_below : (p : ℕ → ℕ) (h : Head) → below (λ k. At (vars_head p k)) h ≡ At (vars_head p h)
renames_below p (Bound zero) = refl
renames_below p (Bound (suc n)) = refl
renames_below p (Con c) = refl
renames_below p _ = refl

apply_stuck : (f a : Term) → IsStuck f a → apply f a ≡ App f a
apply_stuck (Lam b) a h = rw h refl
apply_stuck (At k) a h = refl
apply_stuck (App f b) a h = refl

pub fill-renames : (p : ℕ → ℕ) (t : Term) → IsBuilt t → fill (λ h. At (vars_head p h)) t ≡ vars p t
fill-renames p (Lam b) w = ap lam (ap (λ r. fill r b) (fun_ext (renames_below p)) ∙ fill-renames p b w.0) ∙ sym (lam-vars p b) ∙ ap (λ o. vars p (lam_of o b)) w.1
fill-renames p (At h) w = refl
fill-renames p (App f a) w = ap₂ apply (fill-renames p f w.0) (fill-renames p a w.1) ∙ sym (apply-vars p f a) ∙ ap (vars p) (apply_stuck f a w.2)

-- a variable for another
abbrev pub moved : ℕ → ℕ → ℕ → ℕ
moved v f w = cond (nat_eq v w) f w

only-renames : (v f : ℕ) (h : Head) → only v (At (Var f)) h ≡ At (vars_head (moved v f) h)
only-renames v f (Var w) = go (nat_eq v w)
  where
    go : (b : Bool) → cond b (At (Var f)) (At (Var w)) ≡ At (Var (cond b f w))
    go true = refl
    go false = refl
only-renames v f (Con c) = refl
only-renames v f _ = refl

pub size-renamed : (v f : ℕ) (t : Term) → IsBuilt t → size (inst v (At (Var f)) t) ≡ size t
size-renamed v f t w = ap (λ r. size (fill r t)) (fun_ext (only-renames v f)) ∙ ap size (fill-renames (moved v f) t w) ∙ size-vars (moved v f) t
