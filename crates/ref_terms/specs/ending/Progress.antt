-- Each rule but the ending ones makes one of three numbers smaller.
use Rattle.std.proofs.Common.{◌≡◌, ℕ, suc, ◌+◌, ◌-◌, ◌≤◌, ◌<◌, Bool, true, false, cond, ◌||◌, nat_eq, refl, sym, ◌∙◌, subst, List, [], ◌∷◌, ◌++◌, map, length, arith, ◌⊎◌, inl, inr, eqb-true}
use Rattle.ref_terms.specs.terms.Term.{Term, At, Var}
use Rattle.ref_terms.specs.terms.Built.{IsBuilt}
use Rattle.ref_terms.specs.terms.Occurs.{is_variable, occurs}
use Rattle.ref_terms.specs.terms.Instance.{only, inst}
use Rattle.ref_terms.specs.lemmas.FillLemmas.{built-fill}
use Rattle.ref_terms.specs.unification.Closing.{close_all, keeping}
use Rattle.ref_terms.specs.unification.Problem.{Equation, Problem, Step, Goes, Ends}
use Rattle.ref_terms.specs.unification.Bind.{inst_equation, bind, bind_fresh}
use Rattle.ref_terms.specs.ending.Fits.{Fits}
use Rattle.ref_terms.specs.ending.Measure.{Downward, fits-inst, fits-any, loose-any, Loose, fits-loose, HeadIsNot, loose-inst, loose-lacks, size, size-renamed}
use Rattle.ref_terms.specs.ending.Bounds.{mem, without, total, Among, Bounded, among-downward, bounded-downward, eq-self, mem-first, mem-later, mem-without, length-without-mem, total-without-mem, changed, total-changed, less, less-is, fits-close_all, fits-keeping, fits-some-bound}
use Rattle.ref_terms.specs.laws.TermLaws.{AllBuilt}

-- equations
abbrev pub AllFit : (ℕ → ℕ → Type 0) → List Equation → Type 0
AllFit P [] = Unit {0}
AllFit P (e ∷ es) = (Fits P 0 e.left × Fits P 0 e.right) × AllFit P es

-- the first equation, where both sides were applied to names: one of them has taken all of these
pub record Midway (P : ℕ → ℕ → Type 0) (e : Equation) : Type 0 where
  pub one : Fits P 0 e.left ⊎ Fits P 0 e.right
  pub left : Loose P e.left
  pub right : Loose P e.right

-- the first equation may be midway, the others fit
abbrev pub Good : (ℕ → ℕ → Type 0) → List Equation → Type 0
Good P [] = Unit {0}
Good P (e ∷ es) = Midway P e × AllFit P es

-- the size of all sides
abbrev pub sizes : List Equation → ℕ
sizes [] = 0
sizes (e ∷ es) = (size e.left + size e.right) + sizes es

pub all-good : (P : ℕ → ℕ → Type 0) → Downward P → (es : List Equation) → AllFit P es → Good P es
all-good P d [] w = tt
all-good P d (e ∷ es) w = (record { one = inl w.0.0; left = fits-loose P d e.left 0 w.0.0; right = fits-loose P d e.right 0 w.0.1 }, w.1)

pub all-append : (P : ℕ → ℕ → Type 0) (es ds : List Equation) → AllFit P es → AllFit P ds → AllFit P (es ++ ds)
all-append P [] ds v w = w
all-append P (e ∷ es) ds v w = (v.0, all-append P es ds v.1 w)

pub all-map : (P Q : ℕ → ℕ → Type 0) (v : ℕ) (u : Term) → ((t : Term) → Fits P 0 t → Fits Q 0 (inst v u t)) → (es : List Equation) → AllFit P es → AllFit Q (map (inst_equation v u) es)
all-map P Q v u k [] w = tt
all-map P Q v u k (e ∷ es) w = ((k e.left w.0.0, k e.right w.0.1), all-map P Q v u k es w.1)

-- what is built, which every equation is once something was replaced in it
abbrev pub AreBuilt : List Equation → Type 0
AreBuilt [] = Unit {0}
AreBuilt (e ∷ es) = (IsBuilt e.left × IsBuilt e.right) × AreBuilt es

pub built-append : (es ds : List Equation) → AreBuilt es → AreBuilt ds → AreBuilt (es ++ ds)
built-append [] ds v w = w
built-append (e ∷ es) ds v w = (v.0, built-append es ds v.1 w)

only-built : (v : ℕ) (u : Term) → IsBuilt u → AllBuilt (only v u)
only-built v u w h = go (is_variable v h)
  where
    go : (b : Bool) → IsBuilt (cond b u (At h))
    go true = w
    go false = tt

pub built-map : (v : ℕ) (u : Term) → IsBuilt u → (es : List Equation) → AreBuilt (map (inst_equation v u) es)
built-map v u w [] = tt
built-map v u w (e ∷ es) = ((built-fill (only v u) (only-built v u w) e.left, built-fill (only v u) (only-built v u w) e.right), built-map v u w es)

pub sizes-renamed : (v f : ℕ) (es : List Equation) → AreBuilt es → sizes (map (inst_equation v (At (Var f))) es) ≡ sizes es
sizes-renamed v f [] w = refl
sizes-renamed v f (e ∷ es) w =
    let x : size (inst v (At (Var f)) e.left) ≡ size e.left = size-renamed v f e.left w.0.0 in
    let y : size (inst v (At (Var f)) e.right) ≡ size e.right = size-renamed v f e.right w.0.1 in
    let z : sizes (map (inst_equation v (At (Var f))) es) ≡ sizes es = sizes-renamed v f es w.1 in
    omega arith

pub all-some-bound : (vs : List ℕ) (n : ℕ) (es : List Equation) → sizes es ≤ n → AllFit (Among vs) es → AllFit (Bounded vs (λ w. n)) es
all-some-bound vs n [] h w = tt
all-some-bound vs n (e ∷ es) h w = ((fits-some-bound vs n e.left 0 (omega arith) w.0.0, fits-some-bound vs n e.right 0 (omega arith) w.0.1), all-some-bound vs n es (omega arith) w.1)

-- twice the bounds, and one more where not all is known to be built
abbrev pub room_of : (ℕ → ℕ) → List ℕ → ℕ → ℕ
room_of b vs u = (total b vs + total b vs) + u

-- what is left is bounded by smaller numbers
pub record Onward (v a s : ℕ) (q : Problem) : Type 0 where
  pub listed : List ℕ
  pub bound : ℕ → ℕ
  pub unbuilt : ℕ
  pub good : Good (Bounded listed bound) q.equations
  pub built : unbuilt ≡ 0 → AreBuilt q.equations
  pub falls : ((length listed < v) ⊎ ((length listed ≤ v) × (room_of bound listed unbuilt < a))) ⊎ ((length listed ≤ v) × (room_of bound listed unbuilt ≤ a) × (sizes q.equations < s))

-- a step that goes on makes one of three numbers smaller
abbrev pub Moves : (v a s : ℕ) → Step → Type 0
Moves v a s (Ends c) = Unit {0}
Moves v a s (Goes q) = Onward v a s q

pub one_isnt : (es : List Equation) → ◌≡◌ {A = ℕ} 1 0 → AreBuilt es
one_isnt es e = absurd (omega arith)

-- fewer variables
fewer : (v a s : ℕ) (q : Problem) (vs : List ℕ) → length vs < v → AllFit (Among vs) q.equations → Onward v a s q
fewer v a s q vs h w = record { listed = vs; bound = λ x. sizes q.equations; unbuilt = 1; good = all-good (Bounded vs (λ x. sizes q.equations)) (bounded-downward vs (λ x. sizes q.equations)) q.equations (all-some-bound vs (sizes q.equations) q.equations (omega arith) w); built = one_isnt q.equations; falls = inl (inl h) }

module _ (vs : List ℕ) (b : ℕ → ℕ) where
  -- the bounds before the step
  abbrev pub Here : ℕ → ℕ → Type 0
  Here = Bounded vs b

  pub here-down : Downward Here
  here-down = bounded-downward vs b

  -- a variable is bound to what lacks it
  pub bound_away : (a s : ℕ) (p : Problem) (v : ℕ) (ns : List ℕ) (t : Term) (es : List Equation) → mem v vs ≡ true → occurs v t ≡ false → Loose Here t → AllFit Here es → Onward (length vs) a s (bind v (close_all ns t) es p)
  bound_away a s p v ns t es h o l w = fewer (length vs) a s (bind v (close_all ns t) es p) (without v vs) (length-without-mem v vs h) (all-map Here (Among (without v vs)) v (close_all ns t) one es w)
    where
      other : (w j : ℕ) → nat_eq v w ≡ false → Here w j → Among (without v vs) w j
      other w j n k = mem-without v w vs n k.0

      value : (j : ℕ) → Here v j → Fits (Among (without v vs)) j (close_all ns t)
      value j k = fits-close_all (Among (without v vs)) (among-downward (without v vs)) ns t j (loose-lacks Here (Among (without v vs)) v (λ w i j n k. mem-without v w vs n k.0) t (less (length ns) j) o l)

      one : (x : Term) → Fits Here 0 x → Fits (Among (without v vs)) 0 (inst v (close_all ns t) x)
      one x k = fits-inst Here (Among (without v vs)) (among-downward (without v vs)) v (close_all ns t) value other x 0 k

  -- two variables meet in a fresh one
  pub met : (a s : ℕ) (p : Problem) (v w : ℕ) (n l : ℕ) (ks ls : List ℕ) (f : ℕ) (es : List Equation) → mem v vs ≡ true → mem w vs ≡ true → nat_eq v w ≡ false → AllFit Here es
      → (q : Problem) → q.equations ≡ map (inst_equation w (keeping l ls f)) (map (inst_equation v (keeping n ks f)) es) → Onward (length vs) a s q
  met a s p v w n l ks ls f es hv hw d k q e = fewer (length vs) a s q (f ∷ without w (without v vs)) shorter (subst (λ z. AllFit Second z) (sym e) (all-map First Second w (keeping l ls f) later (map (inst_equation v (keeping n ks f)) es) (all-map Here First v (keeping n ks f) sooner es k)))
    where
      First : ℕ → ℕ → Type 0
      First = Among (f ∷ without v vs)

      Second : ℕ → ℕ → Type 0
      Second = Among (f ∷ without w (without v vs))

      shorter : suc (length (without w (without v vs))) < length vs
      shorter =
          let x : length (without v vs) < length vs = length-without-mem v vs hv in
          let y : length (without w (without v vs)) < length (without v vs) = length-without-mem w (without v vs) (mem-without v w vs d hw) in
          omega arith

      sooner : (x : Term) → Fits Here 0 x → Fits First 0 (inst v (keeping n ks f) x)
      sooner x c = fits-inst Here First (among-downward (f ∷ without v vs)) v (keeping n ks f)
          (λ j g. fits-keeping First (among-downward (f ∷ without v vs)) n ks f j (mem-first f (without v vs)))
          (λ y j o g. mem-later y f (without v vs) (mem-without v y vs o g.0)) x 0 c

      second_other : (y j : ℕ) → nat_eq w y ≡ false → First y j → Second y j
      second_other y j o g = go (nat_eq y f) g
        where
          go : (r : Bool) → (r || mem y (without v vs)) ≡ true → (r || mem y (without w (without v vs))) ≡ true
          go true g = refl
          go false g = mem-without w y (without v vs) o g

      later : (x : Term) → Fits First 0 x → Fits Second 0 (inst w (keeping l ls f) x)
      later x c = fits-inst First Second (among-downward (f ∷ without w (without v vs))) w (keeping l ls f)
          (λ j g. fits-keeping Second (among-downward (f ∷ without w (without v vs))) l ls f j (mem-first f (without w (without v vs))))
          second_other x 0 c

  -- a variable with n arguments is bound to a fresh one over some of them
  module _ (v n f : ℕ) (ks : List ℕ) (known : mem v vs ≡ true) (enough : n ≤ b v) (some : length ks ≤ n) where
    -- the bound of the fresh variable
    abbrev pub Lowered : ℕ
    Lowered = b v - (n - length ks)

    lowered : (j : ℕ) → j ≤ b v → length ks + less n j ≤ Lowered
    lowered j h = let x : less n j ≤ j - n = less-is n j in omega arith

    -- where the fresh one is not in use
    module _ (new : mem f (without v vs) ≡ false) where
      -- the bounds after the step
      abbrev pub Then : ℕ → ℕ → Type 0
      Then = Bounded (f ∷ without v vs) (changed b f Lowered)

      then-down : Downward Then
      then-down = bounded-downward (f ∷ without v vs) (changed b f Lowered)

      then-other : (w j : ℕ) → nat_eq v w ≡ false → Here w j → Then w j
      then-other w j o g = (mem-later w f (without v vs) (mem-without v w vs o g.0), go (nat_eq f w) refl)
        where
          go : (r : Bool) → nat_eq f w ≡ r → j ≤ cond r Lowered (b w)
          go true e = let same : f ≡ w = eqb-true _ _ e in let x : mem f (without v vs) ≡ true = subst (λ z. mem z (without v vs) ≡ true) (sym same) (mem-without v w vs o g.0) in absurd (let z : true ≡ false = sym x ∙ new in cc)
          go false e = g.1

      then-value : (j : ℕ) → Here v j → Fits Then j (keeping n ks f)
      then-value j g = fits-keeping Then then-down n ks f j (mem-first f (without v vs), rw (eq-self f) (lowered j g.1))

      then-fits : (x : Term) → Fits Here 0 x → Fits Then 0 (inst v (keeping n ks f) x)
      then-fits x c = fits-inst Here Then then-down v (keeping n ks f) then-value then-other x 0 c

      then-loose : (x : Term) → HeadIsNot v x → Loose Here x → Loose Then (inst v (keeping n ks f) x)
      then-loose x h c = loose-inst Here Then then-down v (keeping n ks f) then-value then-other x h c

      then-length : length (f ∷ without v vs) ≤ length vs
      then-length = let x : length (without v vs) < length vs = length-without-mem v vs known in omega arith

      then-total : total (changed b f Lowered) (f ∷ without v vs) + b v ≤ Lowered + total b vs
      then-total =
          let x : b v + total b (without v vs) ≤ total b vs = total-without-mem b v vs known in
          let y : total (changed b f Lowered) (without v vs) ≡ total b (without v vs) = total-changed b f Lowered (without v vs) new in
          let z : changed b f Lowered f ≡ Lowered = rw (eq-self f) refl in
          omega arith

    -- where it is in use, a variable goes
    abbrev pub Old : ℕ → ℕ → Type 0
    Old = Among (without v vs)

    old-fits : mem f (without v vs) ≡ true → (x : Term) → Fits (Among vs) 0 x → Fits Old 0 (inst v (keeping n ks f) x)
    old-fits m x c = fits-inst (Among vs) Old (among-downward (without v vs)) v (keeping n ks f)
        (λ j g. fits-keeping Old (among-downward (without v vs)) n ks f j m)
        (λ w j o g. mem-without v w vs o g) x 0 c

    old-strict : mem f (without v vs) ≡ true → (x : Term) → Fits Here 0 x → Fits Old 0 (inst v (keeping n ks f) x)
    old-strict m x c = old-fits m x (fits-any Here (Among vs) (λ w i j g. g.0) x 0 0 c)

    kept : (u s : ℕ) (q : Problem) → ((new : mem f (without v vs) ≡ false) → Good (Then new) q.equations) → (mem f (without v vs) ≡ true → AllFit Old q.equations) → ((length ks < n) ⊎ (AreBuilt q.equations × ((0 < u) ⊎ (sizes q.equations < s)))) → Onward (length vs) (room_of b vs u) s q
    kept u s q fresh old small = go (mem f (without v vs)) refl
      where
        lower : (new : mem f (without v vs) ≡ false) → ((length ks < n) ⊎ (AreBuilt q.equations × ((0 < u) ⊎ (sizes q.equations < s)))) → Onward (length vs) (room_of b vs u) s q
        lower new (inl h) = let x : total (changed b f Lowered) (f ∷ without v vs) + b v ≤ Lowered + total b vs = then-total new in let y : Lowered < b v = omega arith in record { listed = f ∷ without v vs; bound = changed b f Lowered; unbuilt = 1; good = fresh new; built = one_isnt q.equations; falls = inl (inr (then-length new, omega arith)) }
        lower new (inr (g, inl h)) = let x : total (changed b f Lowered) (f ∷ without v vs) + b v ≤ Lowered + total b vs = then-total new in let y : Lowered ≤ b v = omega arith in record { listed = f ∷ without v vs; bound = changed b f Lowered; unbuilt = 0; good = fresh new; built = λ z. g; falls = inl (inr (then-length new, omega arith)) }
        lower new (inr (g, inr h)) = let x : total (changed b f Lowered) (f ∷ without v vs) + b v ≤ Lowered + total b vs = then-total new in let y : Lowered ≤ b v = omega arith in record { listed = f ∷ without v vs; bound = changed b f Lowered; unbuilt = 0; good = fresh new; built = λ z. g; falls = inr (then-length new, omega arith, h) }

        go : (r : Bool) → mem f (without v vs) ≡ r → Onward (length vs) (room_of b vs u) s q
        go true e = fewer (length vs) (room_of b vs u) s q (without v vs) (length-without-mem v vs known) (old e)
        go false e = lower e small

    -- with the first equation gone
    pub kept_rest : (u s : ℕ) (p : Problem) (es : List Equation) → AllFit Here es → ((length ks < n) ⊎ (AreBuilt (map (inst_equation v (keeping n ks f)) es) × ((0 < u) ⊎ (sizes (map (inst_equation v (keeping n ks f)) es) < s)))) → Onward (length vs) (room_of b vs u) s (bind_fresh v (keeping n ks f) es p)
    kept_rest u s p es w small = kept u s (bind_fresh v (keeping n ks f) es p)
        (λ new. all-good (Then new) (then-down new) (map (inst_equation v (keeping n ks f)) es) (all-map Here (Then new) v (keeping n ks f) (then-fits new) es w))
        (λ m. all-map Here Old v (keeping n ks f) (old-strict m) es w) small

    -- with the first equation kept, where the variable is at neither head
    pub kept_first : (u s : ℕ) (p : Problem) (e : Equation) (es : List Equation) → Midway Here e → AllFit Here es → HeadIsNot v e.left → HeadIsNot v e.right → length ks < n → Onward (length vs) (room_of b vs u) s (bind_fresh v (keeping n ks f) (e ∷ es) p)
    kept_first u s p e es g w hl hr small = kept u s (bind_fresh v (keeping n ks f) (e ∷ es) p)
        (λ new. (record { one = side new g.one; left = then-loose new e.left hl g.left; right = then-loose new e.right hr g.right }, all-map Here (Then new) v (keeping n ks f) (then-fits new) es w))
        (λ m. ((old-fits m e.left (loose-any Here (Among vs) (λ w i j k. k.0) e.left 0 g.left), old-fits m e.right (loose-any Here (Among vs) (λ w i j k. k.0) e.right 0 g.right)), all-map Here Old v (keeping n ks f) (old-strict m) es w))
        (inl small)
      where
        side : (new : mem f (without v vs) ≡ false) → (Fits Here 0 e.left ⊎ Fits Here 0 e.right) → Fits (Then new) 0 (inst v (keeping n ks f) e.left) ⊎ Fits (Then new) 0 (inst v (keeping n ks f) e.right)
        side new (inl k) = inl (then-fits new e.left k)
        side new (inr k) = inr (then-fits new e.right k)
