-- Each rule keeps the solutions: those before are those after, followed by the bindings that it makes.
use Rattle.std.proofs.Common.{◌≡◌, ℕ, suc, ◌+◌, ◌≤◌, ◌<◌, Bool, true, false, cond, ◌&&◌, nat_eq, nat_lt, refl, sym, ap, ap₂, ◌∙◌, subst, List, [], ◌∷◌, ◌++◌, map, length, arith, eqb-true, Option, Some, None}
use Rattle.std.proofs.lemmas.Bool.Decides.{Decides-int_eq}
use Rattle.ref_terms.specs.terms.Term.{Term, At, App, Head, Con, Int, Str, Name, Bound, Var}
use Rattle.ref_terms.specs.terms.Apply.{apply}
use Rattle.ref_terms.specs.terms.Instance.{valued, inst_all}
use Rattle.ref_terms.specs.terms.Built.{IsBuilt}
use Rattle.ref_terms.specs.terms.Occurs.{occurs, has_name}
use Rattle.ref_terms.specs.lemmas.FillLemmas.{built-fill}
use Rattle.ref_terms.specs.lemmas.ComposeLemmas.{fill-apply}
use Rattle.ref_terms.specs.unification.Spine.{args_of, head_of, apply_all}
use Rattle.ref_terms.specs.unification.Pattern.{SpineName, pattern_of, names_of}
use Rattle.ref_terms.specs.unification.Shape.{Shape, Abstraction, Redex, Rigid, Flex, shape}
use Rattle.ref_terms.specs.unification.Closing.{close_all, names_below, keeping}
use Rattle.ref_terms.specs.unification.Offence.{Verdict, fine, redex, scope, itself, foreign, dropped, offence}
use Rattle.ref_terms.specs.unification.Problem.{Equation, Binding, Problem, Solved, Clashed, Faulted, Pattern_fault, Step, Goes, Ends}
use Rattle.ref_terms.specs.unification.Bind.{inst_equation, bind, bind_fresh}
use Rattle.ref_terms.specs.unification.Positions.{agreeing, shared, positions_of, all_but}
use Rattle.ref_terms.specs.unification.Rules.{same_variable, two_variables, by_verdict, bind_to, flex_flex, head_eq, equations_of, rule, step_at, step}
use Rattle.ref_terms.specs.unification.Unifier.{IsSubstitution, IsUnifier, IsChoice}
use Rattle.ref_terms.specs.unification.MostGeneral.{follow, through}
use Rattle.ref_terms.specs.lemmas.NameLemmas.{abstraction-same, valued_built, valued_keeps, nat_eq_self}
use Rattle.ref_terms.proofs.unification.BindingLemmas.{inst-close_all, inst-applied, binding-keeps}
use Rattle.ref_terms.specs.ending.Measure.{fits-lacks}
use Rattle.ref_terms.specs.ending.OffenceLemmas.{Told, told, fits-head}
use Rattle.ref_terms.specs.ending.Rules.{Shaped, shape-is, Frozen}
use Rattle.ref_terms.proofs.unification.ValueLemmas.{names, IsNameless, AllBelow, over, over-built, over-nameless, kept-over, UsesOnly, nameless-names, applied-closed}
use Rattle.ref_terms.proofs.unification.KeptLemmas.{terms_of, terms-spine, as_spine, length-spine, Distinct, kept_value, any-mem, same-uses, same-solved, agree-below, shared-uses, shared-below, positions-below, shared-solved, second-over, read-off, but-below}
use Rattle.ref_terms.proofs.unification.DropLemmas.{DistinctNames, pattern-terms, inst-spine, inst-pattern, Scoped, Tells, fine-scoped, Says, Spares, dropped-spared, NotLam, apply-plain, rigid-plain}
use Rattle.ref_terms.proofs.unification.SideLemmas.{IsClosed, Known, known-down, Side, Value, Sides, Values, sides-inst, sides-append, side-apply, value-keeping, value-closed, SideList, side-args, sides-equations, only-names, Agree, inst-agree-on, solves-agree, follow-choice, closed-names, closed-close_all, follow-solves, extended, extended-choice, extended-agrees, extended-at, Forced}

-- what a step from these equations keeps
pub record Kept (m q : ℕ) (old : List Binding) (es : List Equation) (p : Problem) : Type 0 where
  pub grows : q ≤ p.next_var
  pub sides : Sides p.next_var p.equations
  pub made : List Binding
  pub bindings : p.bindings ≡ made ++ old
  pub values : Values p.next_var made
  pub back : (s : ℕ → Term) → IsChoice m s → IsUnifier s p.equations → IsChoice m (through made s) × IsUnifier (through made s) es
  pub forth : (u : ℕ → Term) → IsChoice m u → IsUnifier u es → (s : ℕ → Term) × IsChoice m s × Agree q u s × IsUnifier s p.equations × Forced s made

-- what a step keeps: a step that goes on keeps the unifiers, and the last one leaves no equation
abbrev pub StepKeeps : ℕ → Problem → List Equation → Step → Type 0
StepKeeps m p es (Goes r) = Kept m p.next_var p.bindings es r
StepKeeps m p es (Ends (Solved r)) = (r ≡ p) × (es ≡ [])
StepKeeps m p es (Ends (Clashed k)) = Unit {0}
StepKeeps m p es (Ends (Faulted f)) = Unit {0}

-- the instance of what keeps positions
pub inst-keeping : (s : ℕ → Term) → IsSubstitution s → (n : ℕ) (ks : List ℕ) (f : ℕ) → inst_all s (keeping n ks f) ≡ kept_value n ks (s f)
inst-keeping s g n ks f = inst-close_all s g (names_below n) (apply_all (At (Var f)) (names ks)) ∙ ap (close_all (names_below n)) (inst-applied s g ks (At (Var f)))

follow-at : (s : ℕ → Term) (v : ℕ) (c : Term) → follow (record { variable = v; value = c }) s v ≡ inst_all s c
follow-at s v c = ap (λ r. cond r (inst_all s c) (s v)) (nat_eq_self v)

follow-off : (s : ℕ → Term) (v w : ℕ) (c : Term) → nat_eq v w ≡ false → follow (record { variable = v; value = c }) s w ≡ s w
follow-off s v w c e = ap (λ r. cond r (inst_all s c) (s w)) e

-- a pattern spine of a side
distinct-names : (ns : List ℕ) → DistinctNames (as_spine ns) → Distinct ns
distinct-names [] w = tt
distinct-names (n ∷ ns) w = (sym (any-mem n ns) ∙ w.0, distinct-names ns w.1)

named : (q n : ℕ) (t : Term) → Side q n t → (xs : List SpineName) → pattern_of (args_of t) ≡ Some xs → (xs ≡ as_spine (names_of xs)) × (args_of t ≡ names (names_of xs)) × Distinct (names_of xs)
named q n t s xs k =
    let d = pattern-terms (args_of t) xs k in
    let r : xs ≡ as_spine (names_of xs) = only-names q n xs (subst (SideList q n) d.0 (side-args q n t s)) in
    (r, d.0 ∙ ap terms_of r ∙ terms-spine (names_of xs), distinct-names (names_of xs) (subst DistinctNames r d.1))

-- rigid heads
heads-equal : (h k : Head) → head_eq h k ≡ true → h ≡ k
heads-equal (Con a) (Con b) e = ap Con (eqb-true a b e)
heads-equal (Int a) (Int b) e = ap Int ((Decides-int_eq a b).0 e)
heads-equal (Str a) (Str b) e = ap Str (eqb-true a b e)
heads-equal (Name a) (Name b) e = ap Name (eqb-true a b e)
heads-equal (Bound a) (Bound b) e = ap Bound (eqb-true a b e)
heads-equal (Var a) (Var b) e = ap Var (eqb-true a b e)
heads-equal _ _ e = absurd (let z : false ≡ true = e in cc)

map-length : (g : Term → Term) (xs : List Term) → length (map g xs) ≡ length xs
map-length g [] = refl
map-length g (x ∷ xs) = ap suc (map-length g xs)

args-back : (s : ℕ → Term) (n : ℕ) (xs ys : List Term) (es : List Equation) → length xs ≡ length ys → IsUnifier s (equations_of n xs ys ++ es) → (map (inst_all s) xs ≡ map (inst_all s) ys) × IsUnifier s es
args-back s n [] [] es l h = (refl, h)
args-back s n [] (y ∷ ys) es l h = absurd (omega arith)
args-back s n (x ∷ xs) [] es l h = absurd (omega arith)
args-back s n (x ∷ xs) (y ∷ ys) es l h = let r = args-back s n xs ys es (omega arith) h.1 in (ap₂ (λ (z : Term) (zs : List Term). z ∷ zs) h.0 r.0, r.1)

args-forth : (s : ℕ → Term) (n : ℕ) (xs ys : List Term) (es : List Equation) → map (inst_all s) xs ≡ map (inst_all s) ys → IsUnifier s es → IsUnifier s (equations_of n xs ys ++ es)
args-forth s n [] ys es e h = h
args-forth s n (x ∷ xs) [] es e h = h
args-forth s n (x ∷ xs) (y ∷ ys) es e h =
    let z : inst_all s x ∷ map (inst_all s) xs ≡ inst_all s y ∷ map (inst_all s) ys = e in
    let a : inst_all s x ≡ inst_all s y = cc in
    let b : map (inst_all s) xs ≡ map (inst_all s) ys = cc in
    (a, args-forth s n xs ys es b h)

spine-parts : (xs ys : List Term) (t r : Term) → NotLam t → NotLam r → length xs ≡ length ys → apply_all t xs ≡ apply_all r ys → (t ≡ r) × (xs ≡ ys)
spine-parts [] [] t r p q l e = (e, refl)
spine-parts [] (y ∷ ys) t r p q l e = absurd (omega arith)
spine-parts (x ∷ xs) [] t r p q l e = absurd (omega arith)
spine-parts (x ∷ xs) (y ∷ ys) t r p q l e =
    let i = spine-parts xs ys (App t x) (App r y) tt tt (omega arith) (ap (λ z. apply_all z xs) (sym (apply-plain t x p)) ∙ e ∙ ap (λ z. apply_all z ys) (apply-plain r y q)) in
    let k : App t x ≡ App r y = i.0 in
    let a : t ≡ r = cc in
    let b : x ≡ y = cc in
    (a, ap₂ (λ (z : Term) (zs : List Term). z ∷ zs) b i.1)

-- other variables than this
abbrev pub Away : ℕ → ℕ → ℕ → Type 0
Away v x j = nat_eq v x ≡ false

over-closed : (n : ℕ) (ks : List ℕ) (w : Term) → IsClosed w → IsClosed (over n ks w)
over-closed n ks w k = closed-close_all ks (apply_all w (names (names_below n))) (closed-names (names_below n) w k)

module _ (m : ℕ) (e : Equation) (es : List Equation) (p : Problem) (hl : Side p.next_var e.names e.left) (hr : Side p.next_var e.names e.right) (others : Sides p.next_var es) (above : m ≤ p.next_var) where
  -- what is shown of a rule
  abbrev pub Result : Step → Type 0
  Result = StepKeeps m p (e ∷ es)

  -- the next variable
  abbrev pub q : ℕ
  q = p.next_var

  -- an abstraction on one side
  pub opened-keeps : Result (Goes (record p { equations = record { names = suc e.names; left = apply e.left (At (Name e.names)); right = apply e.right (At (Name e.names)) } ∷ es }))
  opened-keeps = record {
    grows = omega arith;
    sides = ((side-apply q e.names e.left hl, side-apply q e.names e.right hr), others);
    made = [];
    bindings = refl;
    values = tt;
    back = λ s g h. (g, (abstraction-same s g.substitution e.names e.left e.right (hl.scoped e.names (omega arith)) (hr.scoped e.names (omega arith)) h.0, h.1));
    forth = λ u g h. (u, g, λ v l. refl, (fill-apply (valued u) (valued_built u g.substitution) (valued_keeps u) e.left (At (Name e.names)) ∙ ap (λ t. apply t (At (Name e.names))) h.0 ∙ sym (fill-apply (valued u) (valued_built u g.substitution) (valued_keeps u) e.right (At (Name e.names))), h.1), tt);
  }

  -- a binding to a fresh variable over kept positions, where every solution uses only these
  fresh-keeps : (v n : ℕ) (ks : List ℕ) → v < q → nat_lt v m ≡ false → AllBelow n ks → (ds : List Equation) → Sides q ds
      → ((u : ℕ → Term) → IsChoice m u → IsUnifier u (e ∷ es) → UsesOnly n ks (u v) × IsUnifier u ds)
      → ((s : ℕ → Term) → IsChoice m s → (w : Term) → IsBuilt w → IsNameless w → s v ≡ kept_value n ks w → IsUnifier s ds → IsUnifier s (e ∷ es))
      → Kept m q p.bindings (e ∷ es) (bind_fresh v (keeping n ks q) ds p)
  fresh-keeps v n ks l nv b ds side forced solved = record {
    grows = omega arith;
    sides = sides-inst q (suc q) v (keeping n ks q) (omega arith) value ds side;
    made = record { variable = v; value = keeping n ks q } ∷ [];
    bindings = refl;
    values = ((omega arith, value.known), tt);
    back = λ s g h. (follow-choice m s g v nv (keeping n ks q) value.nameless value.closed, solved (follow (record { variable = v; value = keeping n ks q }) s) (follow-choice m s g v nv (keeping n ks q) value.nameless value.closed) (s q) (g.substitution.built q) (g.substitution.nameless q) (follow-at s v (keeping n ks q) ∙ inst-keeping s g.substitution n ks q) (follow-solves s g.substitution v (keeping n ks q) ds h));
    forth = λ u g h. forth u g h (forced u g h);
  }
    where
      value : Value (suc q) (keeping n ks q)
      value = value-keeping (suc q) n ks q b (omega arith)

      forth : (u : ℕ → Term) → IsChoice m u → IsUnifier u (e ∷ es) → UsesOnly n ks (u v) × IsUnifier u ds → (s : ℕ → Term) × IsChoice m s × Agree q u s × IsUnifier s (map (inst_equation v (keeping n ks q)) ds) × Forced s (record { variable = v; value = keeping n ks q } ∷ [])
      forth u g h k =
          let w : Term = over n ks (u v) in
          let s : ℕ → Term = extended u q w in
          let sg : IsChoice m s = extended-choice m u g q above w (over-built n ks (u v) (g.substitution.built v)) (over-nameless n ks (u v) k.0) (over-closed n ks (u v) (g.substitution.closed v)) in
          let agree : Agree q u s = extended-agrees u q q w (omega arith) in
          let bound : s v ≡ inst_all s (keeping n ks q) = sym (agree v l) ∙ sym (kept-over n ks (u v) (g.substitution.built v) (g.substitution.nameless v)) ∙ ap (kept_value n ks) (sym (extended-at u q w)) ∙ sym (inst-keeping s sg.substitution n ks q) in
          (s, sg, agree, binding-keeps s sg.substitution v (keeping n ks q) bound ds (solves-agree q u s agree ds side k.1), (bound, tt))

  -- one variable on both sides
  pub same-keeps : (v : ℕ) (xs ys : List SpineName) → v < q → nat_lt v m ≡ false → head_of e.left ≡ Some (Var v) → head_of e.right ≡ Some (Var v) → args_of e.left ≡ terms_of xs → args_of e.right ≡ terms_of ys → Result (same_variable v xs ys es p)
  same-keeps v xs ys l nv hd hc ad ac = go (nat_eq (length xs) (length ys)) refl
    where
      good : length xs ≡ length ys → Kept m q p.bindings (e ∷ es) (bind_fresh v (keeping (length xs) (agreeing 0 xs ys) q) es p)
      good eq = fresh-keeps v (length xs) (agreeing 0 xs ys) l nv (subst (λ m. AllBelow m (agreeing 0 xs ys)) (let z : 0 + length xs ≡ length xs = omega arith in z) (agree-below 0 xs ys)) es others
          (λ u g h. (same-uses (length xs) xs ys refl (sym eq) (u v) (g.substitution.nameless v) (sym (inst-pattern u e.left v xs hd ad) ∙ h.0 ∙ inst-pattern u e.right v ys hc ac), h.1))
          (λ s g w b n d h. (inst-pattern s e.left v xs hd ad ∙ ap (λ t. apply_all t (terms_of xs)) d ∙ same-solved (length xs) xs ys refl (sym eq) w b n ∙ ap (λ t. apply_all t (terms_of ys)) (sym d) ∙ sym (inst-pattern s e.right v ys hc ac), h))

      go : (r : Bool) → nat_eq (length xs) (length ys) ≡ r → Result (cond r (Goes (bind_fresh v (keeping (length xs) (agreeing 0 xs ys) p.next_var) es p)) (Ends (Clashed false)))
      go true d = good (eqb-true _ _ d)
      go false d = tt

  -- a dropped position
  pub drop-keeps : (v : ℕ) (ns : List ℕ) (t : Term) (y i n : ℕ) → y < q → nat_lt y m ≡ false → ((u : ℕ → Term) → IsChoice m u → inst_all u e.left ≡ inst_all u e.right → Spares u y i n) → Result (Goes (bind_fresh y (keeping n (all_but i n) q) (e ∷ es) p))
  drop-keeps v ns t y i n l ny k = fresh-keeps y n (all_but i n) l ny (subst (λ m. AllBelow m (all_but i n)) (let z : 0 + n ≡ n = omega arith in z) (but-below i 0 n)) (e ∷ es) ((hl, hr), others) (λ u g h. (k u g h.0, h)) (λ s g w b n d h. h)

  inst-names : (u : ℕ → Term) (t : Term) (v : ℕ) (ns : List ℕ) → head_of t ≡ Some (Var v) → args_of t ≡ names ns → inst_all u t ≡ apply_all (u v) (names ns)
  inst-names u t v ns d a = inst-pattern u t v (as_spine ns) d (a ∙ sym (terms-spine ns)) ∙ ap (apply_all (u v)) (terms-spine ns)

  -- two variables
  abbrev pub first_value : List ℕ → List ℕ → Term
  first_value ns ms = keeping (length (as_spine ns)) (shared 0 (as_spine ns) (as_spine ms)) q

  -- the value of the right variable
  abbrev pub second_value : List ℕ → List ℕ → Term
  second_value ns ms = keeping (length (as_spine ms)) (positions_of 0 (as_spine ns) (as_spine ms)) q

  first-good : (ns ms : List ℕ) → Value (suc q) (first_value ns ms)
  first-good ns ms = value-keeping (suc q) (length (as_spine ns)) (shared 0 (as_spine ns) (as_spine ms)) q (subst (λ m. AllBelow m (shared 0 (as_spine ns) (as_spine ms))) (let z : 0 + length (as_spine ns) ≡ length (as_spine ns) = omega arith in z) (shared-below 0 (as_spine ns) (as_spine ms))) (omega arith)

  second-good : (ns ms : List ℕ) → Value (suc q) (second_value ns ms)
  second-good ns ms = value-keeping (suc q) (length (as_spine ms)) (positions_of 0 (as_spine ns) (as_spine ms)) q (subst (λ m. AllBelow m (positions_of 0 (as_spine ns) (as_spine ms))) (sym (length-spine ms)) (positions-below 0 ns ms)) (omega arith)

  inst-first : (s : ℕ → Term) → IsChoice m s → (ns ms : List ℕ) → inst_all s (first_value ns ms) ≡ kept_value (length ns) (shared 0 (as_spine ns) (as_spine ms)) (s q)
  inst-first s g ns ms = inst-keeping s g.substitution (length (as_spine ns)) (shared 0 (as_spine ns) (as_spine ms)) q ∙ ap (λ n. kept_value n (shared 0 (as_spine ns) (as_spine ms)) (s q)) (length-spine ns)

  inst-second : (s : ℕ → Term) → IsChoice m s → (ns ms : List ℕ) → inst_all s (second_value ns ms) ≡ kept_value (length ms) (positions_of 0 (as_spine ns) (as_spine ms)) (s q)
  inst-second s g ns ms = inst-keeping s g.substitution (length (as_spine ms)) (positions_of 0 (as_spine ns) (as_spine ms)) q ∙ ap (λ n. kept_value n (positions_of 0 (as_spine ns) (as_spine ms)) (s q)) (length-spine ms)

  differs : (w : ℕ) → w < q → nat_eq w q ≡ false
  differs w l = go (nat_eq w q) refl
    where
      go : (r : Bool) → nat_eq w q ≡ r → r ≡ false
      go true e = let same : w ≡ p.next_var = eqb-true _ _ e in absurd (omega arith)
      go false e = refl

  -- both bindings
  abbrev pub both_made : (v w : ℕ) → List ℕ → List ℕ → List Binding
  both_made v w ns ms = record { variable = w; value = second_value ns ms } ∷ record { variable = v; value = first_value ns ms } ∷ []

  two-back : (v w : ℕ) (ns ms : List ℕ) → w < q → nat_lt v m ≡ false → nat_lt w m ≡ false → nat_eq v w ≡ false → head_of e.left ≡ Some (Var v) → head_of e.right ≡ Some (Var w) → args_of e.left ≡ names ns → args_of e.right ≡ names ms
      → (s : ℕ → Term) → IsChoice m s → IsUnifier s (map (inst_equation w (second_value ns ms)) (map (inst_equation v (first_value ns ms)) es)) → IsChoice m (through (both_made v w ns ms) s) × IsUnifier (through (both_made v w ns ms) s) (e ∷ es)
  two-back v w ns ms lw nv nw apart hd hc ad ac s g h =
      let s1 : ℕ → Term = follow (record { variable = w; value = second_value ns ms }) s in
      let g1 : IsChoice m s1 = follow-choice m s g w nw (second_value ns ms) (second-good ns ms).nameless (second-good ns ms).closed in
      let h1 : IsUnifier s1 (map (inst_equation v (first_value ns ms)) es) = follow-solves s g.substitution w (second_value ns ms) (map (inst_equation v (first_value ns ms)) es) h in
      let s2 : ℕ → Term = follow (record { variable = v; value = first_value ns ms }) s1 in
      let g2 : IsChoice m s2 = follow-choice m s1 g1 v nv (first_value ns ms) (first-good ns ms).nameless (first-good ns ms).closed in
      let h2 : IsUnifier s2 es = follow-solves s1 g1.substitution v (first_value ns ms) es h1 in
      let at_v : s2 v ≡ kept_value (length ns) (shared 0 (as_spine ns) (as_spine ms)) (s1 p.next_var) = follow-at s1 v (first_value ns ms) ∙ inst-first s1 g1 ns ms in
      let at_w : s2 w ≡ kept_value (length ms) (positions_of 0 (as_spine ns) (as_spine ms)) (s1 p.next_var) = follow-off s1 v w (first_value ns ms) apart ∙ follow-at s w (second_value ns ms) ∙ inst-second s g ns ms ∙ ap (kept_value (length ms) (positions_of 0 (as_spine ns) (as_spine ms))) (sym (follow-off s w p.next_var (second_value ns ms) (differs w lw))) in
      (g2, (inst-names s2 e.left v ns hd ad ∙ ap (λ t. apply_all t (names ns)) at_v ∙ shared-solved ns ms (s1 p.next_var) (g1.substitution.built p.next_var) (g1.substitution.nameless p.next_var) ∙ ap (λ t. apply_all t (names ms)) (sym at_w) ∙ sym (inst-names s2 e.right w ms hc ac), h2))

  two-forth : (v w : ℕ) (ns ms : List ℕ) → v < q → w < q → head_of e.left ≡ Some (Var v) → head_of e.right ≡ Some (Var w) → args_of e.left ≡ names ns → args_of e.right ≡ names ms → Distinct ms
      → (u : ℕ → Term) → IsChoice m u → IsUnifier u (e ∷ es) → (s : ℕ → Term) × IsChoice m s × Agree q u s × IsUnifier s (map (inst_equation w (second_value ns ms)) (map (inst_equation v (first_value ns ms)) es)) × Forced s (both_made v w ns ms)
  two-forth v w ns ms lv lw hd hc ad ac dis u g h =
      let meet : apply_all (u v) (names ns) ≡ apply_all (u w) (names ms) = sym (inst-names u e.left v ns hd ad) ∙ h.0 ∙ inst-names u e.right w ms hc ac in
      let k : Term = over (length ns) (shared 0 (as_spine ns) (as_spine ms)) (u v) in
      let s : ℕ → Term = extended u p.next_var k in
      let kn : IsNameless k = over-nameless (length ns) (shared 0 (as_spine ns) (as_spine ms)) (u v) (shared-uses (length ns) ns ms refl (u v) (u w) (g.substitution.nameless v) (g.substitution.nameless w) meet) in
      let sg : IsChoice m s = extended-choice m u g p.next_var above k (over-built (length ns) (shared 0 (as_spine ns) (as_spine ms)) (u v) (g.substitution.built v)) kn (over-closed (length ns) (shared 0 (as_spine ns) (as_spine ms)) (u v) (g.substitution.closed v)) in
      let agree : Agree p.next_var u s = extended-agrees u p.next_var p.next_var k (omega arith) in
      let bv : s v ≡ inst_all s (first_value ns ms) = sym (agree v lv) ∙ sym (kept-over (length ns) (shared 0 (as_spine ns) (as_spine ms)) (u v) (g.substitution.built v) (g.substitution.nameless v)) ∙ ap (kept_value (length ns) (shared 0 (as_spine ns) (as_spine ms))) (sym (extended-at u p.next_var k)) ∙ sym (inst-first s sg ns ms) in
      let bw : s w ≡ inst_all s (second_value ns ms) = sym (agree w lw) ∙ sym (second-over ns ms dis (u v) (u w) (g.substitution.built v) (g.substitution.built w) (g.substitution.nameless v) (g.substitution.nameless w) meet) ∙ ap (kept_value (length ms) (positions_of 0 (as_spine ns) (as_spine ms))) (sym (extended-at u p.next_var k)) ∙ sym (inst-second s sg ns ms) in
      (s, sg, agree, binding-keeps s sg.substitution w (second_value ns ms) bw (map (inst_equation v (first_value ns ms)) es) (binding-keeps s sg.substitution v (first_value ns ms) bv es (solves-agree p.next_var u s agree es others h.1)), (bw, (bv, tt)))

  pub two-keeps : (v w : ℕ) (ns ms : List ℕ) → v < q → w < q → nat_lt v m ≡ false → nat_lt w m ≡ false → nat_eq v w ≡ false → head_of e.left ≡ Some (Var v) → head_of e.right ≡ Some (Var w) → args_of e.left ≡ names ns → args_of e.right ≡ names ms → Distinct ms → Result (two_variables v w (as_spine ns) (as_spine ms) es p)
  two-keeps v w ns ms lv lw nv nw apart hd hc ad ac dis = record {
    grows = omega arith;
    sides = sides-inst (suc q) (suc q) w (second_value ns ms) (omega arith) (second-good ns ms) (map (inst_equation v (first_value ns ms)) es) (sides-inst q (suc q) v (first_value ns ms) (omega arith) (first-good ns ms) es others);
    made = both_made v w ns ms;
    bindings = refl;
    values = ((omega arith, (second-good ns ms).known), ((omega arith, (first-good ns ms).known), tt));
    back = two-back v w ns ms lw nv nw apart hd hc ad ac;
    forth = two-forth v w ns ms lv lw hd hc ad ac dis;
  }

  -- a variable against another term
  value-back : (v : ℕ) (ns : List ℕ) (t : Term) → nat_lt v m ≡ false → Side q e.names t → Value q (close_all ns t) → occurs v t ≡ false
      → ((u : ℕ → Term) → apply_all (u v) (names ns) ≡ inst_all u t → inst_all u e.left ≡ inst_all u e.right)
      → (s : ℕ → Term) → IsChoice m s → IsUnifier s (map (inst_equation v (close_all ns t)) es) → IsChoice m (through (record { variable = v; value = close_all ns t } ∷ []) s) × IsUnifier (through (record { variable = v; value = close_all ns t } ∷ []) s) (e ∷ es)
  value-back v ns t nv st val occ from s g h =
      let s1 : ℕ → Term = follow (record { variable = v; value = close_all ns t }) s in
      let g1 : IsChoice m s1 = follow-choice m s g v nv (close_all ns t) val.nameless val.closed in
      let at_v : s1 v ≡ close_all ns (inst_all s t) = follow-at s v (close_all ns t) ∙ inst-close_all s g.substitution ns t in
      let away : inst_all s1 t ≡ inst_all s t = inst-agree-on (Away v) s1 s (λ x j k. follow-off s v x (close_all ns t) k) t 0 (fits-lacks (Known q) (Away v) v (λ x i j k l. k) t 0 0 occ st.known) in
      (g1, (from s1 (ap (λ z. apply_all z (names ns)) at_v ∙ applied-closed ns (inst_all s t) (built-fill (valued s) (valued_built s g.substitution) t) ∙ sym away), follow-solves s g.substitution v (close_all ns t) es h))

  value-forth : (v : ℕ) (ns : List ℕ) (t : Term) → Distinct ns → ((u : ℕ → Term) → inst_all u e.left ≡ inst_all u e.right → apply_all (u v) (names ns) ≡ inst_all u t)
      → (u : ℕ → Term) → IsChoice m u → IsUnifier u (e ∷ es) → (s : ℕ → Term) × IsChoice m s × Agree q u s × IsUnifier s (map (inst_equation v (close_all ns t)) es) × Forced s (record { variable = v; value = close_all ns t } ∷ [])
  value-forth v ns t dis to u g h =
      let bound : u v ≡ inst_all u (close_all ns t) = sym (read-off ns dis (u v) (g.substitution.built v) (λ x m. g.substitution.nameless v x)) ∙ ap (close_all ns) (to u h.0) ∙ sym (inst-close_all u g.substitution ns t) in
      (u, g, λ x l. refl, binding-keeps u g.substitution v (close_all ns t) bound es h.1, (bound, tt))

  value-keeps : (v : ℕ) (ns : List ℕ) (t : Term) → v < q → nat_lt v m ≡ false → Distinct ns → Side q e.names t → Scoped ns t → occurs v t ≡ false
      → ((u : ℕ → Term) → inst_all u e.left ≡ inst_all u e.right → apply_all (u v) (names ns) ≡ inst_all u t)
      → ((u : ℕ → Term) → apply_all (u v) (names ns) ≡ inst_all u t → inst_all u e.left ≡ inst_all u e.right)
      → Result (Goes (bind v (close_all ns t) es p))
  value-keeps v ns t l nv dis st sc occ to from =
      let val : Value p.next_var (close_all ns t) = value-closed p.next_var e.names ns t sc st in
      record {
        grows = omega arith;
        sides = sides-inst q q v (close_all ns t) (omega arith) val es others;
        made = record { variable = v; value = close_all ns t } ∷ [];
        bindings = refl;
        values = ((l, val.known), tt);
        back = value-back v ns t nv st val occ from;
        forth = value-forth v ns t dis to;
      }

  verdict-keeps : (v : ℕ) (ns : List ℕ) (t : Term) → v < q → nat_lt v m ≡ false → Distinct ns → Side q e.names t
      → ((u : ℕ → Term) → inst_all u e.left ≡ inst_all u e.right → apply_all (u v) (names ns) ≡ inst_all u t)
      → ((u : ℕ → Term) → apply_all (u v) (names ns) ≡ inst_all u t → inst_all u e.left ≡ inst_all u e.right)
      → (w : Verdict) → Told (Known q) (known-down q) m v ns false (occurs v t ≡ false) w → Tells (Scoped ns t) w → ((u : ℕ → Term) → IsChoice m u → Scoped ns (inst_all u t) → Says (Spares u) w)
      → Result (by_verdict v ns t e es p w)
  verdict-keeps v ns t l nv dis st to from fine a b c = value-keeps v ns t l nv dis st b a to from
  verdict-keeps v ns t l nv dis st to from (dropped y i n) a b c = drop-keeps v ns t y i n a.0 a.2 (λ u g h. c u g (λ x m. sym (ap (has_name x) (to u h)) ∙ nameless-names x ns (u v) (g.substitution.nameless v x) m))
  verdict-keeps v ns t l nv dis st to from redex a b c = tt
  verdict-keeps v ns t l nv dis st to from scope a b c = tt
  verdict-keeps v ns t l nv dis st to from itself a b c = tt
  verdict-keeps v ns t l nv dis st to from foreign a b c = tt

  -- what a pattern spine of a side says
  head-known : (t : Term) (v : ℕ) → Side q e.names t → head_of t ≡ Some (Var v) → v < q
  head-known t v st d = fits-head (Known q) t 0 v d st.known

  bind-left : (v : ℕ) (o : Option (List SpineName)) → head_of e.left ≡ Some (Var v) → nat_lt v m ≡ false → pattern_of (args_of e.left) ≡ o → Result (bind_to m v o e.right e es p)
  bind-left v None d nv k = tt
  bind-left v (Some xs) d nv k =
      let n = named q e.names e.left hl xs k in
      verdict-keeps v (names_of xs) e.right (head-known e.left v hl d) nv n.2 hr
      (λ u h. sym (inst-names u e.left v (names_of xs) d n.1) ∙ h)
      (λ u h. inst-names u e.left v (names_of xs) d n.1 ∙ h)
      (offence m v (names_of xs) false e.right)
      ((told (Known q) (known-down q) m v (names_of xs) e.right).0 false hr.known)
      (fine-scoped m v (names_of xs) e.right false)
      (λ u g w. dropped-spared m v (names_of xs) u g e.right w)

  bind-right : (v : ℕ) (o : Option (List SpineName)) → head_of e.right ≡ Some (Var v) → nat_lt v m ≡ false → pattern_of (args_of e.right) ≡ o → Result (bind_to m v o e.left e es p)
  bind-right v None d nv k = tt
  bind-right v (Some xs) d nv k =
      let n = named q e.names e.right hr xs k in
      verdict-keeps v (names_of xs) e.left (head-known e.right v hr d) nv n.2 hl
      (λ u h. sym (inst-names u e.right v (names_of xs) d n.1) ∙ sym h)
      (λ u h. sym h ∙ sym (inst-names u e.right v (names_of xs) d n.1))
      (offence m v (names_of xs) false e.left)
      ((told (Known q) (known-down q) m v (names_of xs) e.left).0 false hl.known)
      (fine-scoped m v (names_of xs) e.left false)
      (λ u g w. dropped-spared m v (names_of xs) u g e.left w)

  flex-keeps : (v w : ℕ) (i o : Option (List SpineName)) → head_of e.left ≡ Some (Var v) → head_of e.right ≡ Some (Var w) → nat_lt v m ≡ false → nat_lt w m ≡ false → pattern_of (args_of e.left) ≡ i → pattern_of (args_of e.right) ≡ o → Result (flex_flex m v w i o e es p)
  flex-keeps v w (Some xs) (Some ys) d c nv nw j k = go (nat_eq v w) refl
    where
      go : (r : Bool) → nat_eq v w ≡ r → Result (cond r (same_variable v xs ys es p) (two_variables v w xs ys es p))
      go true s = same-keeps v xs ys (head-known e.left v hl d) nv d (subst (λ z. head_of e.right ≡ Some (Var z)) (sym (eqb-true v w s)) c) (pattern-terms (args_of e.left) xs j).0 (pattern-terms (args_of e.right) ys k).0
      go false s =
          let n = named q e.names e.left hl xs j in
          let r = named q e.names e.right hr ys k in
          subst (λ (z : List SpineName). Result (two_variables v w z ys es p)) (sym n.0) (subst (λ (z : List SpineName). Result (two_variables v w (as_spine (names_of xs)) z es p)) (sym r.0)
          (two-keeps v w (names_of xs) (names_of ys) (head-known e.left v hl d) (head-known e.right w hr c) nv nw s d c n.1 r.1 r.2))
  flex-keeps v w (Some xs) None d c nv nw j k = go (nat_eq v w)
    where
      go : (r : Bool) → Result (cond r (Ends (Faulted Pattern_fault)) (bind_to m v (Some xs) e.right e es p))
      go true = tt
      go false = bind-left v (Some xs) d nv j
  flex-keeps v w None o d c nv nw j k = go (nat_eq v w)
    where
      go : (r : Bool) → Result (cond r (Ends (Faulted Pattern_fault)) (bind_to m w o e.left e es p))
      go true = tt
      go false = bind-right w o c nw k

  -- two rigid heads
  rigid-keeps : (h k : Head) → head_of e.left ≡ Some h → head_of e.right ≡ Some k → Frozen m h → Frozen m k → (r : Bool) → head_eq h k ≡ r → (s : Bool) → nat_eq (length (args_of e.left)) (length (args_of e.right)) ≡ s
      → Result (cond (r && s) (Goes (record p { equations = equations_of e.names (args_of e.left) (args_of e.right) ++ es })) (Ends (Clashed false)))
  rigid-keeps h k d c rh rk true x true y =
      let len : length (args_of e.left) ≡ length (args_of e.right) = eqb-true _ _ y in
      record {
        grows = omega arith;
        sides = sides-append q (equations_of e.names (args_of e.left) (args_of e.right)) es (sides-equations q e.names (args_of e.left) (args_of e.right) (side-args q e.names e.left hl) (side-args q e.names e.right hr)) others;
        made = [];
        bindings = refl;
        values = tt;
        back = λ s g z. let a = args-back s e.names (args_of e.left) (args_of e.right) es len z in (g, (inst-spine s e.left h d ∙ ap₂ apply_all (ap (valued s) (heads-equal h k x)) a.0 ∙ sym (inst-spine s e.right k c), a.1));
        forth = λ u g z. let a = spine-parts (map (inst_all u) (args_of e.left)) (map (inst_all u) (args_of e.right)) (valued u h) (valued u k) (rigid-plain m u g h rh) (rigid-plain m u g k rk) (map-length (inst_all u) (args_of e.left) ∙ len ∙ sym (map-length (inst_all u) (args_of e.right))) (sym (inst-spine u e.left h d) ∙ z.0 ∙ inst-spine u e.right k c) in (u, g, λ v l. refl, args-forth u e.names (args_of e.left) (args_of e.right) es a.1 z.1, tt);
      }
  rigid-keeps h k d c rh rk true x false y = tt
  rigid-keeps h k d c rh rk false x s y = tt

  pub rule-keeps : (s t : Shape) → Shaped m e.left s → Shaped m e.right t → Result (rule m s t e es p)
  rule-keeps Redex t x y = tt
  rule-keeps Abstraction Redex x y = tt
  rule-keeps (Rigid h xs) Redex x y = tt
  rule-keeps (Flex v xs) Redex x y = tt
  rule-keeps (Rigid h xs) (Rigid k ys) x y = subst (λ (z : List Term). Result (cond (head_eq h k && nat_eq (length z) (length ys)) (Goes (record p { equations = equations_of e.names z ys ++ es })) (Ends (Clashed false)))) x.1
      (subst (λ (z : List Term). Result (cond (head_eq h k && nat_eq (length (args_of e.left)) (length z)) (Goes (record p { equations = equations_of e.names (args_of e.left) z ++ es })) (Ends (Clashed false)))) y.1
      (rigid-keeps h k x.0 y.0 x.2 y.2 (head_eq h k) refl (nat_eq (length (args_of e.left)) (length (args_of e.right))) refl))
  rule-keeps (Flex v xs) (Rigid k ys) x y = bind-left v (pattern_of xs) x.0 x.2 (ap pattern_of x.1)
  rule-keeps (Rigid h xs) (Flex w ys) x y = bind-right w (pattern_of ys) y.0 y.2 (ap pattern_of y.1)
  rule-keeps (Flex v xs) (Flex w ys) x y = flex-keeps v w (pattern_of xs) (pattern_of ys) x.0 y.0 x.2 y.2 (ap pattern_of x.1) (ap pattern_of y.1)
  rule-keeps Abstraction Abstraction x y = opened-keeps
  rule-keeps Abstraction (Rigid k ys) x y = opened-keeps
  rule-keeps Abstraction (Flex w ys) x y = opened-keeps
  rule-keeps (Rigid h xs) Abstraction x y = opened-keeps
  rule-keeps (Flex v xs) Abstraction x y = opened-keeps

-- one step
pub step-keeps : (m : ℕ) (p : Problem) → m ≤ p.next_var → Sides p.next_var p.equations → StepKeeps m p p.equations (step m p)
unfolding step
step-keeps m p l w = go p.equations w
  where
    go : (es : List Equation) → Sides p.next_var es → StepKeeps m p es (step_at m es p)
    go [] w = (refl, refl)
    go (e ∷ es) w = rule-keeps m e es p w.0.0 w.0.1 w.1 l (shape m e.left) (shape m e.right) (shape-is m e.left) (shape-is m e.right)
