-- What a step keeps of the sides of equations, and of the values of bindings.
use Rattle.std.proofs.Common.{◌≡◌, ℕ, zero, suc, ◌≤◌, ◌<◌, Bool, true, false, cond, nat_eq, nat_lt, refl, sym, ap, ap₂, ◌∙◌, subst, List, [], ◌∷◌, ◌++◌, map, length, arith, eqb-true}
use mathlib.Core.Path.{fun_ext}
use Rattle.std.proofs.lemmas.Bool.Decides.{Decides-ltb}
use Rattle.ref_terms.specs.terms.Term.{Term, Lam, At, App, Head, Con, Int, Str, Name, Bound, Var}
use Rattle.ref_terms.specs.terms.Index.{ren, ren_head, up, next, shift}
use Rattle.ref_terms.specs.terms.Eta.{lam}
use Rattle.ref_terms.specs.terms.Apply.{apply, below, fill}
use Rattle.ref_terms.specs.terms.Instance.{valued, inst_all, only, inst}
use Rattle.ref_terms.specs.terms.Built.{IsBuilt}
use Rattle.ref_terms.specs.terms.Occurs.{is_variable, occurs, is_name, has_name}
use Rattle.ref_terms.specs.lemmas.FillLemmas.{built-fill}
use Rattle.ref_terms.specs.lemmas.ComposeLemmas.{fill-ren, fill-fill, ren-apply, ren-lam}
use Rattle.ref_terms.specs.unification.Spine.{args_of, apply_all}
use Rattle.ref_terms.specs.unification.Pattern.{SpineName, of_name, of_bound, names_of}
use Rattle.ref_terms.specs.unification.Closing.{closing, close_all, names_below, keeping}
use Rattle.ref_terms.specs.unification.Problem.{Equation, Binding}
use Rattle.ref_terms.specs.unification.Bind.{inst_equation}
use Rattle.ref_terms.specs.unification.Rules.{equations_of}
use Rattle.ref_terms.specs.unification.Unifier.{IsSubstitution, IsUnifier, IsChoice}
use Rattle.ref_terms.specs.unification.MostGeneral.{follow, through}
use Rattle.ref_terms.specs.unification.Proper.{IsSide, AreProper}
use Rattle.ref_terms.specs.lemmas.NameLemmas.{nameless-fill, nameless-apply, inst-nameless, valued_built, valued_keeps, or_left, or_right, nat_eq_self}
use Rattle.ref_terms.specs.ending.Fits.{FitsHead, Fits, before}
use Rattle.ref_terms.specs.ending.Measure.{Downward, fits-any, fits-apply, fits-inst}
use Rattle.ref_terms.specs.ending.Bounds.{fits-close_all, fits-keeping, less, mem}
use Rattle.ref_terms.proofs.unification.ValueLemmas.{names, IsNameless, AllBelow, nameless-close_all}
use Rattle.ref_terms.proofs.unification.KeptLemmas.{kept-nameless, as_spine, terms_of}

-- closed terms
abbrev pub IsClosed : Term → Type 0
IsClosed t = (f : ℕ → ℕ) → ren f t ≡ t

pub closed-apply : (f a : Term) → IsClosed f → IsClosed a → IsClosed (apply f a)
closed-apply f a c d g = ren-apply g f a ∙ ap₂ apply (c g) (d g)

closed-only : (v : ℕ) (c : Term) → IsClosed c → (f : ℕ → ℕ) (h : Head) → only v c (ren_head f h) ≡ ren f (only v c h)
closed-only v c k f (Var w) = go (nat_eq v w)
  where
    go : (b : Bool) → cond b c (At (Var w)) ≡ ren f (cond b c (At (Var w)))
    go true = sym (k f)
    go false = refl
closed-only v c k f (Con n) = refl
closed-only v c k f _ = refl

pub closed-inst : (v : ℕ) (c t : Term) → IsClosed c → IsClosed t → IsClosed (inst v c t)
closed-inst v c t k l f = sym (fill-ren (only v c) (only v c) f f (closed-only v c k f) t) ∙ ap (fill (only v c)) (l f)

closing-ren : (n : ℕ) (f : ℕ → ℕ) (h : Head) → closing n (ren_head f h) ≡ ren (up f) (closing n h)
closing-ren n f (Name k) = go (nat_eq n k)
  where
    go : (b : Bool) → cond b (At (Bound zero)) (At (Name k)) ≡ ren (up f) (cond b (At (Bound zero)) (At (Name k)))
    go true = refl
    go false = refl
closing-ren n f (Con c) = refl
closing-ren n f _ = refl

pub closed-close_all : (ns : List ℕ) (t : Term) → IsClosed t → IsClosed (close_all ns t)
closed-close_all [] t k f = k f
closed-close_all (n ∷ ns) t k f = ren-lam f (fill (closing n) (close_all ns t)) ∙ ap lam (sym (fill-ren (closing n) (closing n) f (up f) (closing-ren n f) (close_all ns t)) ∙ ap (fill (closing n)) (closed-close_all ns t k f))

pub closed-names : (ns : List ℕ) (t : Term) → IsClosed t → IsClosed (apply_all t (names ns))
closed-names [] t k = k
closed-names (n ∷ ns) t k = closed-names ns (apply t (At (Name n))) (closed-apply t (At (Name n)) k (λ f. refl))

-- variables below a number
abbrev pub Known : ℕ → ℕ → ℕ → Type 0
Known q v j = v < q

pub known-down : (q : ℕ) → Downward (Known q)
known-down q v j i l w = w

pub known-more : (q r : ℕ) → q ≤ r → (t : Term) (i j : ℕ) → Fits (Known q) i t → Fits (Known r) j t
known-more q r l t i j w = fits-any (Known q) (Known r) (λ v i j h. omega arith) t i j w

-- a side of an equation, with its variables as a bound
pub record Side (q n : ℕ) (t : Term) : Type 0 where
  pub closed : IsClosed t
  pub scoped : (x : ℕ) → n ≤ x → has_name x t ≡ false
  pub known : Fits (Known q) 0 t

-- a value of a binding
pub record Value (q : ℕ) (t : Term) : Type 0 where
  pub closed : IsClosed t
  pub nameless : IsNameless t
  pub known : Fits (Known q) 0 t

-- both sides of each equation
abbrev pub Sides : ℕ → List Equation → Type 0
Sides q [] = Unit {0}
Sides q (e ∷ es) = (Side q e.names e.left × Side q e.names e.right) × Sides q es

-- the values of all bindings have known variables
abbrev pub Values : ℕ → List Binding → Type 0
Values q [] = Unit {0}
Values q (b ∷ bs) = ((b.variable < q) × Fits (Known q) 0 b.value) × Values q bs

pub fits-from : (q : ℕ) (t : Term) (j : ℕ) → ((v : ℕ) → q ≤ v → occurs v t ≡ false) → Fits (Known q) j t
fits-from q (Lam b) j h = fits-from q b (before j) h
fits-from q (At (Var v)) j h = go (nat_eq v v) refl
  where
    go : (r : Bool) → nat_eq v v ≡ r → v < q
    go r e = let known : q ≤ v → ⊥ = λ l. absurd (let a : nat_eq v v ≡ false = h v l in let b : nat_eq v v ≡ true = nat_eq_self v in let z : true ≡ false = sym b ∙ a in cc) in omega arith
fits-from q (At (Con c)) j h = tt
fits-from q (At _) j h = tt
fits-from q (App f a) j h = (fits-from q f (suc j) (λ v l. or_left _ _ (h v l)), fits-from q a 0 (λ v l. or_right _ _ (h v l)))

pub sides-from : (q : ℕ) (es : List Equation) → AreProper q es → Sides q es
sides-from q [] w = tt
sides-from q (e ∷ es) w = ((side e.left w.0, side e.right w.1), sides-from q es w.2)
  where
    side : (t : Term) → IsSide q e.names t → Side q e.names t
    side t k = record { closed = k.closed; scoped = k.scoped; known = fits-from q t 0 k.known }

pub side-more : (q r n : ℕ) → q ≤ r → (t : Term) → Side q n t → Side r n t
side-more q r n l t s = record { closed = s.closed; scoped = s.scoped; known = known-more q r l t 0 0 s.known }

pub side-inst : (q r n v : ℕ) (c : Term) → q ≤ r → Value r c → (t : Term) → Side q n t → Side r n (inst v c t)
side-inst q r n v c l k t s = record {
  closed = closed-inst v c t k.closed s.closed;
  scoped = λ x h. nameless-fill x (only v c) (only-nameless x) t (s.scoped x h);
  known = fits-inst (Known q) (Known r) (known-down r) v c (λ j h. known-more r r (omega arith) c 0 j k.known) (λ w j o h. omega arith) t 0 s.known;
}
  where
    only-nameless : (x : ℕ) (h : Head) → is_name x h ≡ false → has_name x (only v c h) ≡ false
    only-nameless x h e = go (is_variable v h)
      where
        go : (b : Bool) → has_name x (cond b c (At h)) ≡ false
        go true = k.nameless x
        go false = e

pub sides-inst : (q r v : ℕ) (c : Term) → q ≤ r → Value r c → (es : List Equation) → Sides q es → Sides r (map (inst_equation v c) es)
sides-inst q r v c l k [] w = tt
sides-inst q r v c l k (e ∷ es) w = ((side-inst q r e.names v c l k e.left w.0.0, side-inst q r e.names v c l k e.right w.0.1), sides-inst q r v c l k es w.1)

pub sides-append : (q : ℕ) (es ds : List Equation) → Sides q es → Sides q ds → Sides q (es ++ ds)
sides-append q [] ds v w = w
sides-append q (e ∷ es) ds v w = (v.0, sides-append q es ds v.1 w)

pub side-apply : (q n : ℕ) (t : Term) → Side q n t → Side q (suc n) (apply t (At (Name n)))
side-apply q n t s = record {
  closed = closed-apply t (At (Name n)) s.closed (λ f. refl);
  scoped = λ x h. nameless-apply x t (At (Name n)) (s.scoped x (omega arith)) (other x h (nat_eq x n) refl);
  known = fits-apply (Known q) t (At (Name n)) 0 (known-more q q (omega arith) t 0 1 s.known) tt;
}
  where
    other : (x : ℕ) → suc n ≤ x → (b : Bool) → nat_eq x n ≡ b → b ≡ false
    other x h true e = let same : x ≡ n = eqb-true _ _ e in absurd (omega arith)
    other x h false e = refl

-- the values that rules bind
pub value-keeping : (q n : ℕ) (ks : List ℕ) (f : ℕ) → AllBelow n ks → f < q → Value q (keeping n ks f)
value-keeping q n ks f h l = record {
  closed = closed-close_all (names_below n) (apply_all (At (Var f)) (names ks)) (closed-names ks (At (Var f)) (λ g. refl));
  nameless = kept-nameless n ks (At (Var f)) h (λ x. refl);
  known = fits-keeping (Known q) (known-down q) n ks f 0 l;
}

pub value-closed : (q n : ℕ) (ns : List ℕ) (t : Term) → ((a : ℕ) → mem a ns ≡ false → has_name a t ≡ false) → Side q n t → Value q (close_all ns t)
value-closed q n ns t h s = record {
  closed = closed-close_all ns t s.closed;
  nameless = λ x. nameless-close_all x ns t (h x);
  known = fits-close_all (Known q) (known-down q) ns t 0 (known-more q q (omega arith) t 0 (less (length ns) 0) s.known);
}

-- arguments
abbrev pub SideList : ℕ → ℕ → List Term → Type 0
SideList q n [] = Unit {0}
SideList q n (x ∷ xs) = Side q n x × SideList q n xs

list-append : (q n : ℕ) (xs : List Term) (a : Term) → SideList q n xs → Side q n a → SideList q n (xs ++ a ∷ [])
list-append q n [] a v w = (w, tt)
list-append q n (x ∷ xs) a v w = (v.0, list-append q n xs a v.1 w)

pub side-args : (q n : ℕ) (t : Term) → Side q n t → SideList q n (args_of t)
side-args q n (Lam b) s = tt
side-args q n (At h) s = tt
side-args q n (App f a) s = list-append q n (args_of f) a (side-args q n f front) last
  where
    front : Side q n f
    front = record { closed = λ g. (let z : App (ren g f) (ren g a) ≡ App f a = s.closed g in let d : ren g f ≡ f = cc in d); scoped = λ x h. or_left (has_name x f) (has_name x a) (s.scoped x h); known = known-more q q (omega arith) f 1 0 s.known.0 }

    last : Side q n a
    last = record { closed = λ g. (let z : App (ren g f) (ren g a) ≡ App f a = s.closed g in let d : ren g a ≡ a = cc in d); scoped = λ x h. or_right (has_name x f) (has_name x a) (s.scoped x h); known = s.known.1 }

pub sides-equations : (q n : ℕ) (xs ys : List Term) → SideList q n xs → SideList q n ys → Sides q (equations_of n xs ys)
sides-equations q n (x ∷ xs) (y ∷ ys) v w = ((v.0, w.0), sides-equations q n xs ys v.1 w.1)
sides-equations q n [] ys v w = tt
sides-equations q n (x ∷ xs) [] v w = tt

-- a pattern spine of closed terms consists of names
pub only-names : (q n : ℕ) (ks : List SpineName) → SideList q n (terms_of ks) → ks ≡ as_spine (names_of ks)
only-names q n [] w = refl
only-names q n (of_name k ∷ ks) w = ap (λ (z : List SpineName). of_name k ∷ z) (only-names q n ks w.1)
only-names q n (of_bound i ∷ ks) w = absurd (let z : At (Bound (suc i)) ≡ At (Bound i) = w.0.closed next in let d : suc i ≡ i = cc in omega arith)

-- substitutions that agree on the variables below a number
abbrev pub Agree : ℕ → (ℕ → Term) → (ℕ → Term) → Type 0
Agree q u s = (v : ℕ) → v < q → u v ≡ s v

AgreeOn : (ℕ → ℕ → Type 0) → (Head → Term) → (Head → Term) → Type 0
AgreeOn P r z = (h : Head) (j : ℕ) → FitsHead P j h → r h ≡ z h

below-agree : (P : ℕ → ℕ → Type 0) (r z : Head → Term) → AgreeOn P r z → AgreeOn P (below r) (below z)
unfolding AgreeOn
below-agree P r z e (Bound zero) j k = refl
below-agree P r z e (Bound (suc n)) j k = ap shift (e (Bound n) j tt)
below-agree P r z e (Con c) j k = ap shift (e (Con c) j tt)
below-agree P r z e (Int c) j k = ap shift (e (Int c) j tt)
below-agree P r z e (Str c) j k = ap shift (e (Str c) j tt)
below-agree P r z e (Name c) j k = ap shift (e (Name c) j tt)
below-agree P r z e (Var c) j k = ap shift (e (Var c) j k)

fill-agree : (P : ℕ → ℕ → Type 0) (r z : Head → Term) → AgreeOn P r z → (t : Term) (j : ℕ) → Fits P j t → fill r t ≡ fill z t
unfolding AgreeOn
fill-agree P r z e (Lam b) j w = ap lam (fill-agree P (below r) (below z) (below-agree P r z e) b (before j) w)
fill-agree P r z e (At h) j w = e h j w
fill-agree P r z e (App f a) j w = ap₂ apply (fill-agree P r z e f (suc j) w.0) (fill-agree P r z e a 0 w.1)

pub inst-agree-on : (P : ℕ → ℕ → Type 0) (u s : ℕ → Term) → ((v j : ℕ) → P v j → u v ≡ s v) → (t : Term) (j : ℕ) → Fits P j t → inst_all u t ≡ inst_all s t
unfolding AgreeOn
inst-agree-on P u s k t j w = fill-agree P (valued u) (valued s) heads t j w
  where
    heads : (h : Head) (j : ℕ) → FitsHead P j h → valued u h ≡ valued s h
    heads (Var v) j w = k v j w
    heads (Con c) j w = refl
    heads _ j w = refl

pub inst-agree : (q : ℕ) (u s : ℕ → Term) → Agree q u s → (t : Term) → Fits (Known q) 0 t → inst_all u t ≡ inst_all s t
inst-agree q u s k t w = inst-agree-on (Known q) u s (λ v j h. k v h) t 0 w

pub solves-agree : (q : ℕ) (u s : ℕ → Term) → Agree q u s → (es : List Equation) → Sides q es → IsUnifier u es → IsUnifier s es
solves-agree q u s k [] w h = tt
solves-agree q u s k (e ∷ es) w h = (sym (inst-agree q u s k e.left w.0.0.known) ∙ h.0 ∙ inst-agree q u s k e.right w.0.1.known, solves-agree q u s k es w.1 h.1)

-- the binding followed by a substitution
valued-ren : (s : ℕ → Term) → IsSubstitution s → (f : ℕ → ℕ) (h : Head) → valued s (ren_head f h) ≡ ren f (valued s h)
valued-ren s g f (Var v) = sym (g.closed v f)
valued-ren s g f (Con c) = refl
valued-ren s g f _ = refl

pub closed-inst_all : (s : ℕ → Term) → IsSubstitution s → (t : Term) → IsClosed t → IsClosed (inst_all s t)
closed-inst_all s g t k f = sym (fill-ren (valued s) (valued s) f f (valued-ren s g f) t) ∙ ap (fill (valued s)) (k f)

pub follow-good : (s : ℕ → Term) → IsSubstitution s → (v : ℕ) (c : Term) → IsNameless c → IsClosed c → IsSubstitution (follow (record { variable = v; value = c }) s)
follow-good s g v c n k = record { built = λ w. one w (nat_eq v w); closed = λ w f. three w f (nat_eq v w); nameless = λ w x. two w x (nat_eq v w) }
  where
    three : (w : ℕ) (f : ℕ → ℕ) (b : Bool) → ren f (cond b (inst_all s c) (s w)) ≡ cond b (inst_all s c) (s w)
    three w f true = closed-inst_all s g c k f
    three w f false = g.closed w f

    one : (w : ℕ) (b : Bool) → IsBuilt (cond b (inst_all s c) (s w))
    one w true = built-fill (valued s) (valued_built s g) c
    one w false = g.built w

    two : (w x : ℕ) (b : Bool) → has_name x (cond b (inst_all s c) (s w)) ≡ false
    two w x true = inst-nameless s g x c (n x)
    two w x false = g.nameless w x

pub follow-inst : (s : ℕ → Term) → IsSubstitution s → (v : ℕ) (c t : Term) → inst_all (follow (record { variable = v; value = c }) s) t ≡ inst_all s (inst v c t)
follow-inst s g v c t = ap (λ r. fill r t) (fun_ext heads) ∙ sym (fill-fill (valued s) (only v c) (valued_built s g) (valued_keeps s) t)
  where
    heads : (h : Head) → valued (follow (record { variable = v; value = c }) s) h ≡ fill (valued s) (only v c h)
    heads (Var w) = go (nat_eq v w)
      where
        go : (b : Bool) → cond b (inst_all s c) (s w) ≡ fill (valued s) (cond b c (At (Var w)))
        go true = refl
        go false = refl
    heads (Con k) = refl
    heads _ = refl

pub follow-solves : (s : ℕ → Term) → IsSubstitution s → (v : ℕ) (c : Term) (es : List Equation) → IsUnifier s (map (inst_equation v c) es) → IsUnifier (follow (record { variable = v; value = c }) s) es
follow-solves s g v c [] h = tt
follow-solves s g v c (e ∷ es) h = (follow-inst s g v c e.left ∙ h.0 ∙ sym (follow-inst s g v c e.right), follow-solves s g v c es h.1)

-- another value for one variable
abbrev pub extended : (ℕ → Term) → ℕ → Term → ℕ → Term
extended u f w v = cond (nat_eq f v) w (u v)

pub extended-good : (u : ℕ → Term) → IsSubstitution u → (f : ℕ) (w : Term) → IsBuilt w → IsNameless w → IsClosed w → IsSubstitution (extended u f w)
extended-good u g f w b n k = record { built = λ v. one v (nat_eq f v); closed = λ v z. three v z (nat_eq f v); nameless = λ v x. two v x (nat_eq f v) }
  where
    three : (v : ℕ) (z : ℕ → ℕ) (r : Bool) → ren z (cond r w (u v)) ≡ cond r w (u v)
    three v z true = k z
    three v z false = g.closed v z

    one : (v : ℕ) (r : Bool) → IsBuilt (cond r w (u v))
    one v true = b
    one v false = g.built v

    two : (v x : ℕ) (r : Bool) → has_name x (cond r w (u v)) ≡ false
    two v x true = n x
    two v x false = g.nameless v x

pub extended-agrees : (u : ℕ → Term) (q f : ℕ) (w : Term) → q ≤ f → Agree q u (extended u f w)
extended-agrees u q f w l v h = go (nat_eq f v) refl
  where
    go : (r : Bool) → nat_eq f v ≡ r → u v ≡ cond r w (u v)
    go true e = let same : f ≡ v = eqb-true _ _ e in absurd (omega arith)
    go false e = refl

pub follow-choice : (m : ℕ) (s : ℕ → Term) → IsChoice m s → (v : ℕ) → nat_lt v m ≡ false → (c : Term) → IsNameless c → IsClosed c → IsChoice m (follow (record { variable = v; value = c }) s)
follow-choice m s g v l c n k = record { substitution = follow-good s g.substitution v c n k; frozen = λ w h. go w h (nat_eq v w) refl }
  where
    go : (w : ℕ) → w < m → (r : Bool) → nat_eq v w ≡ r → cond r (inst_all s c) (s w) ≡ At (Var w)
    go w h true e = let same : v ≡ w = eqb-true _ _ e in absurd (let a : nat_lt w m ≡ false = subst (λ z. nat_lt z m ≡ false) same l in let b : nat_lt w m ≡ true = (Decides-ltb w m).1 h in let z : true ≡ false = sym b ∙ a in cc)
    go w h false e = g.frozen w h

pub extended-choice : (m : ℕ) (u : ℕ → Term) → IsChoice m u → (f : ℕ) → m ≤ f → (w : Term) → IsBuilt w → IsNameless w → IsClosed w → IsChoice m (extended u f w)
extended-choice m u g f l w b n k = record { substitution = extended-good u g.substitution f w b n k; frozen = λ v h. sym (extended-agrees u m f w l v h) ∙ g.frozen v h }

pub extended-at : (u : ℕ → Term) (f : ℕ) (w : Term) → extended u f w f ≡ w
extended-at u f w = ap (λ r. cond r w (u f)) (nat_eq_self f)

-- bindings that hold of a substitution
abbrev pub Forced : (ℕ → Term) → List Binding → Type 0
Forced s [] = Unit {0}
Forced s (b ∷ bs) = (s b.variable ≡ inst_all s b.value) × Forced s bs

pub forced-agree : (q : ℕ) (u s : ℕ → Term) → Agree q u s → (bs : List Binding) → Values q bs → Forced u bs → Forced s bs
forced-agree q u s k [] w h = tt
forced-agree q u s k (b ∷ bs) w h = (sym (k b.variable w.0.0) ∙ h.0 ∙ inst-agree q u s k b.value w.0.1, forced-agree q u s k bs w.1 h.1)

pub forced-through : (s : ℕ → Term) (bs : List Binding) → Forced s bs → through bs s ≡ s
forced-through s [] h = refl
forced-through s (b ∷ bs) h = ap (through bs) (fun_ext same) ∙ forced-through s bs h.1
  where
    same : (v : ℕ) → follow b s v ≡ s v
    same v = go (nat_eq b.variable v) refl
      where
        go : (r : Bool) → nat_eq b.variable v ≡ r → cond r (inst_all s b.value) (s v) ≡ s v
        go true e = sym h.0 ∙ ap s (eqb-true _ _ e)
        go false e = refl

pub forced-append : (s : ℕ → Term) (bs ds : List Binding) → Forced s bs → Forced s ds → Forced s (bs ++ ds)
forced-append s [] ds v w = w
forced-append s (b ∷ bs) ds v w = (v.0, forced-append s bs ds v.1 w)

pub through-append : (bs ds : List Binding) (s : ℕ → Term) → through (bs ++ ds) s ≡ through ds (through bs s)
through-append [] ds s = refl
through-append (b ∷ bs) ds s = through-append bs ds (follow b s)
