-- A step of unification on a renamed problem.
use Rattle.std.proofs.Common.{◌≡◌, ℕ, zero, suc, Bool, true, false, cond, ◌&&◌, nat_eq, nat_lt, List, [], ◌∷◌, ◌++◌, map, length, refl, sym, ap, ap₂, ◌∙◌, Option, Some, None, option_map}
use Rattle.std.proofs.lemmas.List.{map-append, length-map}
use Rattle.std.specs.List.{list_any}
use Rattle.ref_terms.specs.terms.Term.{Term, Lam, At, App, Head, Con, Int, Str, Name, Bound, Var}
use Rattle.ref_terms.specs.terms.Eta.{lam}
use Rattle.ref_terms.specs.terms.Apply.{apply, fill}
use Rattle.ref_terms.specs.terms.Instance.{only, inst}
use Rattle.ref_terms.specs.terms.Renamed.{vars, vars_head}
use Rattle.ref_terms.specs.lemmas.VarsLemmas.{fill-vars, apply-vars, lam-vars}
use Rattle.ref_terms.specs.unification.Spine.{args_of, head_of, apply_all}
use Rattle.ref_terms.specs.unification.Shape.{Shape, Abstraction, Redex, Rigid, Flex, headed, shape}
use Rattle.ref_terms.specs.unification.Pattern.{SpineName, spine_name, pattern_of, names_of}
use Rattle.ref_terms.specs.unification.Closing.{close, close_all, closing, keeping, names_below}
use Rattle.ref_terms.specs.unification.Offence.{Verdict, fine, redex, scope, itself, foreign, dropped, or_later, Arguments, of_rigid, pattern_spine, other_spine, arguments, of_flexible, is_foreign, head_verdict, offence, along}
use Rattle.ref_terms.specs.unification.Problem.{Equation, Problem, Clashed, Faulted, Step, Goes, Ends, Pattern_fault}
use Rattle.ref_terms.specs.unification.Bind.{inst_equation, bind, bind_fresh}
use Rattle.ref_terms.specs.unification.Rules.{same_variable, two_variables, by_verdict, bind_to, flex_flex, headed_by_name, head_eq, equations_of, rule, step_at, step}
use Rattle.ref_terms.specs.unification.Positions.{agreeing, shared, positions_of, all_but}
use Rattle.ref_terms.specs.unification.Renamed.{equation_vars, binding_vars, renamed, renamed_step, IsRenaming}

pub args-vars : (p : ℕ → ℕ) (t : Term) → args_of (vars p t) ≡ map (vars p) (args_of t)
args-vars p (Lam b) = refl
args-vars p (At h) = refl
args-vars p (App f a) = ap (λ xs. xs ++ vars p a ∷ []) (args-vars p f) ∙ sym (map-append (vars p) (args_of f) (a ∷ []))

pub head-vars : (p : ℕ → ℕ) (t : Term) → head_of (vars p t) ≡ option_map (vars_head p) (head_of t)
head-vars p (Lam b) = refl
head-vars p (At h) = refl
head-vars p (App f a) = head-vars p f

spine_name-vars : (p : ℕ → ℕ) (t : Term) → spine_name (vars p t) ≡ spine_name t
spine_name-vars p (At (Name n)) = refl
spine_name-vars p (At (Bound n)) = refl
spine_name-vars p (At _) = refl
spine_name-vars p _ = refl

pub pattern-vars : (p : ℕ → ℕ) (ts : List Term) → pattern_of (map (vars p) ts) ≡ pattern_of ts
pattern-vars p [] = refl
pattern-vars p (t ∷ ts) = rw (spine_name-vars p t, pattern-vars p ts) refl

pub apply_all-vars : (p : ℕ → ℕ) (t : Term) (ts : List Term) → vars p (apply_all t ts) ≡ apply_all (vars p t) (map (vars p) ts)
apply_all-vars p t [] = refl
apply_all-vars p t (a ∷ ts) = apply_all-vars p (apply t a) ts ∙ ap (λ u. apply_all u (map (vars p) ts)) (apply-vars p t a)

closing-vars : (p : ℕ → ℕ) (n : ℕ) (h : Head) → vars p (closing n h) ≡ closing n (vars_head p h)
closing-vars p n (Name k) = go (nat_eq n k)
  where
    go : (b : Bool) → vars p (cond b (At (Bound zero)) (At (Name k))) ≡ cond b (At (Bound zero)) (At (Name k))
    go true = refl
    go false = refl
closing-vars p n (Con c) = refl
closing-vars p n _ = refl

pub close-vars : (p : ℕ → ℕ) (n : ℕ) (t : Term) → vars p (close n t) ≡ close n (vars p t)
close-vars p n t = lam-vars p (fill (closing n) t) ∙ ap lam (fill-vars p (closing n) (closing n) (closing-vars p n) t)

close_all-vars : (p : ℕ → ℕ) (ns : List ℕ) (t : Term) → vars p (close_all ns t) ≡ close_all ns (vars p t)
close_all-vars p [] t = refl
close_all-vars p (n ∷ ns) t = close-vars p n (close_all ns t) ∙ ap (close n) (close_all-vars p ns t)

pub names-vars : (p : ℕ → ℕ) (ks : List ℕ) → map (vars p) (map (λ i. At (Name i)) ks) ≡ map (λ i. At (Name i)) ks
names-vars p [] = refl
names-vars p (k ∷ ks) = ap (λ xs. At (Name k) ∷ xs) (names-vars p ks)

pub keeping-vars : (p : ℕ → ℕ) (n : ℕ) (kept : List ℕ) (v : ℕ) → vars p (keeping n kept v) ≡ keeping n kept (p v)
keeping-vars p n kept v = close_all-vars p (names_below n) _ ∙ ap (close_all (names_below n)) (apply_all-vars p (At (Var v)) (map (λ i. At (Name i)) kept) ∙ ap (apply_all (At (Var (p v)))) (names-vars p kept))

module _ (p : ℕ → ℕ) (m m' : ℕ) (good : IsRenaming p m m') where
  only-vars : (v : ℕ) (u : Term) (h : Head) → vars p (only v u h) ≡ only (p v) (vars p u) (vars_head p h)
  only-vars v u (Var w) = go (nat_eq v w) ∙ ap (λ b. cond b (vars p u) (At (Var (p w)))) (sym (good.one_to_one v w))
    where
      go : (b : Bool) → vars p (cond b u (At (Var w))) ≡ cond b (vars p u) (At (Var (p w)))
      go true = refl
      go false = refl
  only-vars v u (Con c) = refl
  only-vars v u _ = refl

  pub inst-vars : (v : ℕ) (u t : Term) → vars p (inst v u t) ≡ inst (p v) (vars p u) (vars p t)
  inst-vars v u t = fill-vars p (only v u) (only (p v) (vars p u)) (only-vars v u) t

  insts-vars : (v : ℕ) (u : Term) (es : List Equation) → map (equation_vars p) (map (inst_equation v u) es) ≡ map (inst_equation (p v) (vars p u)) (map (equation_vars p) es)
  insts-vars v u [] = refl
  insts-vars v u (e ∷ es) = ap₂ (λ (x : Equation) (xs : List Equation). x ∷ xs) (λ i. record { names = e.names; left = inst-vars v u e.left i; right = inst-vars v u e.right i }) (insts-vars v u es)

  shape_vars : Shape → Shape
  shape_vars Abstraction = Abstraction
  shape_vars Redex = Redex
  shape_vars (Rigid h xs) = Rigid (vars_head p h) (map (vars p) xs)
  shape_vars (Flex v xs) = Flex (p v) (map (vars p) xs)

  headed-vars : (o : Option Head) (xs : List Term) → headed m' (option_map (vars_head p) o) (map (vars p) xs) ≡ shape_vars (headed m o xs)
  unfolding shape_vars
  headed-vars None xs = refl
  headed-vars (Some (Var v)) xs = ap (λ b. cond b (Rigid (Var (p v)) (map (vars p) xs)) (Flex (p v) (map (vars p) xs))) (good.frozen v) ∙ go (nat_lt v m)
    where
      go : (b : Bool) → cond b (Rigid (Var (p v)) (map (vars p) xs)) (Flex (p v) (map (vars p) xs)) ≡ shape_vars (cond b (Rigid (Var v) xs) (Flex v xs))
      go true = refl
      go false = refl
  headed-vars (Some (Con c)) xs = refl
  headed-vars (Some _) xs = refl

  shape-vars : (t : Term) → shape m' (vars p t) ≡ shape_vars (shape m t)
  unfolding shape_vars
  shape-vars (Lam b) = refl
  shape-vars (At h) = headed-vars (Some h) []
  shape-vars (App f a) = ap₂ (headed m') (head-vars p f) (args-vars p (App f a)) ∙ headed-vars (head_of f) (args_of f ++ a ∷ [])

  verdict_vars : Verdict → Verdict
  verdict_vars (dropped v i n) = dropped (p v) i n
  verdict_vars w = w

  or_later-vars : (v w : Verdict) → or_later (verdict_vars v) (verdict_vars w) ≡ verdict_vars (or_later v w)
  unfolding verdict_vars
  or_later-vars fine w = refl
  or_later-vars _ w = refl

  head_verdict-vars : (x : ℕ) (ns : List ℕ) (loose : Bool) (h : Head) → head_verdict (p x) ns loose (vars_head p h) ≡ verdict_vars (head_verdict x ns loose h)
  unfolding verdict_vars
  head_verdict-vars x ns loose (Var v) = ap (λ b. cond b (cond loose scope itself) fine) (good.one_to_one x v) ∙ go (nat_eq x v) loose
    where
      go : (b l : Bool) → cond b (cond l scope itself) fine ≡ verdict_vars (cond b (cond l scope itself) fine)
      go true true = refl
      go true false = refl
      go false l = refl
  head_verdict-vars x ns loose (Name n) = go (list_any (nat_eq n) ns) loose
    where
      go : (b l : Bool) → cond b fine (cond l scope foreign) ≡ verdict_vars (cond b fine (cond l scope foreign))
      go true l = refl
      go false true = refl
      go false false = refl
  head_verdict-vars x ns loose (Con c) = refl
  head_verdict-vars x ns loose _ = refl

  spine_vars : Arguments → Arguments
  spine_vars of_rigid = of_rigid
  spine_vars (pattern_spine v n) = pattern_spine (p v) n
  spine_vars other_spine = other_spine

  flex_spine-vars : (v : ℕ) (xs : List Term) → of_flexible (p v) (map (vars p) xs) (pattern_of (map (vars p) xs)) ≡ spine_vars (of_flexible v xs (pattern_of xs))
  unfolding spine_vars
  flex_spine-vars v xs = ap₂ (flex_spine_of (p v)) (length-map xs (vars p)) (pattern-vars p xs) ∙ go (pattern_of xs)
    where
      flex_spine_of : ℕ → ℕ → Option (List SpineName) → Arguments
      flex_spine_of v n None = other_spine
      flex_spine_of v n (Some ns) = pattern_spine v n

      go : (o : Option (List SpineName)) → flex_spine_of (p v) (length xs) o ≡ spine_vars (of_flexible v xs o)
      go None = refl
      go (Some ns) = refl

  is_foreign-vars : (ns : List ℕ) (a : Term) → is_foreign ns (vars p a) ≡ is_foreign ns a
  is_foreign-vars ns (At (Name n)) = refl
  is_foreign-vars ns (At (Con c)) = refl
  is_foreign-vars ns (At _) = refl
  is_foreign-vars ns _ = refl

  -- what an argument's verdict is, by its spine
  abbrev argument : Bool → ℕ → Bool → Arguments → Verdict → Verdict → Verdict
  argument loose i outside k u w = elim k [ of_rigid ↦ u | pattern_spine v n ↦ cond outside (cond loose scope (dropped v i n)) fine | other_spine ↦ w ]

  argument-vars : (loose : Bool) (i : ℕ) (outside : Bool) (k : Arguments) (u w : Verdict) → argument loose i outside (spine_vars k) (verdict_vars u) (verdict_vars w) ≡ verdict_vars (argument loose i outside k u w)
  unfolding spine_vars verdict_vars
  argument-vars loose i outside of_rigid u w = refl
  argument-vars loose i outside other_spine u w = refl
  argument-vars loose i outside (pattern_spine v n) u w = go outside loose
    where
      go : (b l : Bool) → cond b (cond l scope (dropped (p v) i n)) fine ≡ verdict_vars (cond b (cond l scope (dropped v i n)) fine)
      go false l = refl
      go true true = refl
      go true false = refl

  length_args-vars : (f : Term) → length (args_of (vars p f)) ≡ length (args_of f)
  length_args-vars f = ap length (args-vars p f) ∙ length-map (args_of f) (vars p)

  headed_spine-vars : (o : Option Head) (xs : List Term) → arguments m' (option_map (vars_head p) o) (map (vars p) xs) ≡ spine_vars (arguments m o xs)
  unfolding spine_vars
  headed_spine-vars None xs = refl
  headed_spine-vars (Some (Var v)) xs = ap (λ b. cond b of_rigid (of_flexible (p v) (map (vars p) xs) (pattern_of (map (vars p) xs)))) (good.frozen v) ∙ ap (cond (nat_lt v m) of_rigid) (flex_spine-vars v xs) ∙ go (nat_lt v m)
    where
      go : (b : Bool) → cond b of_rigid (spine_vars (of_flexible v xs (pattern_of xs))) ≡ spine_vars (cond b of_rigid (of_flexible v xs (pattern_of xs)))
      go true = refl
      go false = refl
  headed_spine-vars (Some (Con c)) xs = refl
  headed_spine-vars (Some _) xs = refl

  spine_of-vars : (f a : Term) → arguments m' (head_of (vars p f)) (args_of (vars p f) ++ vars p a ∷ []) ≡ spine_vars (arguments m (head_of f) (args_of f ++ a ∷ []))
  spine_of-vars f a = ap₂ (arguments m') (head-vars p f) (args-vars p (App f a)) ∙ headed_spine-vars (head_of f) (args_of f ++ a ∷ [])

  redex_same : redex ≡ verdict_vars redex
  unfolding verdict_vars
  redex_same = refl

  mutual
    offence-vars : (x : ℕ) (ns : List ℕ) (loose : Bool) (t : Term) → offence m' (p x) ns loose (vars p t) ≡ verdict_vars (offence m x ns loose t)
    offence-vars x ns loose (Lam b) = offence-vars x ns loose b
    offence-vars x ns loose (At h) = head_verdict-vars x ns loose h
    offence-vars x ns loose (App f a) =
        let k = arguments m (head_of f) (args_of f ++ a ∷ []) in
        ap (λ z. or_later (along m' (p x) ns loose z (vars p f)) (argument loose (length (args_of (vars p f))) (is_foreign ns (vars p a)) z (offence m' (p x) ns loose (vars p a)) (offence m' (p x) ns true (vars p a)))) (spine_of-vars f a)
        ∙ ap₂ or_later (along-vars x ns loose k f)
        (ap₂ (λ (i : ℕ) (o : Bool). argument loose i o (spine_vars k) (offence m' (p x) ns loose (vars p a)) (offence m' (p x) ns true (vars p a))) (length_args-vars f) (is_foreign-vars ns a)
        ∙ ap₂ (argument loose (length (args_of f)) (is_foreign ns a) (spine_vars k)) (offence-vars x ns loose a) (offence-vars x ns true a)
        ∙ argument-vars loose (length (args_of f)) (is_foreign ns a) k (offence m x ns loose a) (offence m x ns true a))
        ∙ or_later-vars (along m x ns loose k f) (argument loose (length (args_of f)) (is_foreign ns a) k (offence m x ns loose a) (offence m x ns true a))

    along-vars : (x : ℕ) (ns : List ℕ) (loose : Bool) (k : Arguments) (t : Term) → along m' (p x) ns loose (spine_vars k) (vars p t) ≡ verdict_vars (along m x ns loose k t)
    along-vars x ns loose k (Lam b) = redex_same
    along-vars x ns loose k (At h) = head_verdict-vars x ns loose h
    along-vars x ns loose k (App f a) =
        ap₂ or_later (along-vars x ns loose k f)
        (ap₂ (λ (i : ℕ) (o : Bool). argument loose i o (spine_vars k) (offence m' (p x) ns loose (vars p a)) (offence m' (p x) ns true (vars p a))) (length_args-vars f) (is_foreign-vars ns a)
        ∙ ap₂ (argument loose (length (args_of f)) (is_foreign ns a) (spine_vars k)) (offence-vars x ns loose a) (offence-vars x ns true a)
        ∙ argument-vars loose (length (args_of f)) (is_foreign ns a) k (offence m x ns loose a) (offence m x ns true a))
        ∙ or_later-vars (along m x ns loose k f) (argument loose (length (args_of f)) (is_foreign ns a) k (offence m x ns loose a) (offence m x ns true a))

  -- the rules
  module _ (q : Problem) (fresh : p (suc q.next_var) ≡ suc (p q.next_var)) where
    bind-vars : (v : ℕ) (u : Term) (es : List Equation) (b : Problem) → bind (p v) (vars p u) (map (equation_vars p) es) (renamed p b) ≡ renamed p (bind v u es b)
    bind-vars v u es b = λ i. record { next_var = p b.next_var; equations = sym (insts-vars v u es) i; bindings = binding_vars p (record { variable = v; value = u }) ∷ map (binding_vars p) b.bindings }

    bind_fresh-vars : (v : ℕ) (u : Term) (es : List Equation) → bind_fresh (p v) (vars p u) (map (equation_vars p) es) (renamed p q) ≡ renamed p (bind_fresh v u es q)
    bind_fresh-vars v u es = λ i. record { next_var = sym fresh i; equations = sym (insts-vars v u es) i; bindings = binding_vars p (record { variable = v; value = u }) ∷ map (binding_vars p) q.bindings }

    same_variable-vars : (v : ℕ) (xs ys : List SpineName) (es : List Equation) → same_variable (p v) xs ys (map (equation_vars p) es) (renamed p q) ≡ renamed_step p (same_variable v xs ys es q)
    same_variable-vars v xs ys es = go (nat_eq (length xs) (length ys))
      where
        go : (b : Bool) → cond b (Goes (bind_fresh (p v) (keeping (length xs) (agreeing 0 xs ys) (p q.next_var)) (map (equation_vars p) es) (renamed p q))) (Ends (Clashed false)) ≡ renamed_step p (cond b (Goes (bind_fresh v (keeping (length xs) (agreeing 0 xs ys) q.next_var) es q)) (Ends (Clashed false)))
        go true = ap Goes (ap (λ u. bind_fresh (p v) u (map (equation_vars p) es) (renamed p q)) (sym (keeping-vars p (length xs) (agreeing 0 xs ys) q.next_var)) ∙ bind_fresh-vars v _ es)
        go false = refl

    two_variables-vars : (v w : ℕ) (xs ys : List SpineName) (es : List Equation) → two_variables (p v) (p w) xs ys (map (equation_vars p) es) (renamed p q) ≡ renamed_step p (two_variables v w xs ys es q)
    two_variables-vars v w xs ys es =
        let a : Term = keeping (length xs) (shared 0 xs ys) q.next_var in
        let b : Term = keeping (length ys) (positions_of 0 xs ys) q.next_var in
        let same : bind_fresh (p v) (keeping (length xs) (shared 0 xs ys) (p q.next_var)) (map (equation_vars p) es) (renamed p q) ≡ renamed p (bind_fresh v a es q) = ap (λ u. bind_fresh (p v) u (map (equation_vars p) es) (renamed p q)) (sym (keeping-vars p (length xs) (shared 0 xs ys) q.next_var)) ∙ bind_fresh-vars v a es in
        ap Goes (ap₂ (λ (f : Problem) (u : Term). bind (p w) u f.equations f) same (sym (keeping-vars p (length ys) (positions_of 0 xs ys) q.next_var)) ∙ bind-vars w b (bind_fresh v a es q).equations (bind_fresh v a es q))

    name_head-vars : (o : Option Head) → headed_by_name (option_map (vars_head p) o) ≡ headed_by_name o
    name_head-vars None = refl
    name_head-vars (Some (Name n)) = refl
    name_head-vars (Some _) = refl

    by_verdict-vars : (v : ℕ) (ns : List ℕ) (t : Term) (e : Equation) (es : List Equation) (w : Verdict) → by_verdict (p v) ns (vars p t) (equation_vars p e) (map (equation_vars p) es) (renamed p q) (verdict_vars w) ≡ renamed_step p (by_verdict v ns t e es q w)
    unfolding verdict_vars
    by_verdict-vars v ns t e es fine = ap Goes (ap (λ u. bind (p v) u (map (equation_vars p) es) (renamed p q)) (sym (close_all-vars p ns t)) ∙ bind-vars v (close_all ns t) es q)
    by_verdict-vars v ns t e es redex = refl
    by_verdict-vars v ns t e es scope = refl
    by_verdict-vars v ns t e es itself = ap (λ b. Ends (Clashed b)) (ap headed_by_name (head-vars p t) ∙ name_head-vars (head_of t))
    by_verdict-vars v ns t e es foreign = refl
    by_verdict-vars v ns t e es (dropped y i n) = ap Goes (ap (λ u. bind_fresh (p y) u (map (equation_vars p) (e ∷ es)) (renamed p q)) (sym (keeping-vars p n (all_but i n) q.next_var)) ∙ bind_fresh-vars y (keeping n (all_but i n) q.next_var) (e ∷ es))

    bind_to-vars : (v : ℕ) (o : Option (List SpineName)) (t : Term) (e : Equation) (es : List Equation) → bind_to m' (p v) o (vars p t) (equation_vars p e) (map (equation_vars p) es) (renamed p q) ≡ renamed_step p (bind_to m v o t e es q)
    bind_to-vars v None t e es = refl
    bind_to-vars v (Some xs) t e es = ap (by_verdict (p v) (names_of xs) (vars p t) (equation_vars p e) (map (equation_vars p) es) (renamed p q)) (offence-vars v (names_of xs) false t) ∙ by_verdict-vars v (names_of xs) t e es (offence m v (names_of xs) false t)

    cond-step : (b : Bool) (x y : Step) (x' y' : Step) → x' ≡ renamed_step p x → y' ≡ renamed_step p y → cond b x' y' ≡ renamed_step p (cond b x y)
    cond-step true x y x' y' e f = e
    cond-step false x y x' y' e f = f

    flex_flex-vars : (v w : ℕ) (o r : Option (List SpineName)) (e : Equation) (es : List Equation) → flex_flex m' (p v) (p w) o r (equation_vars p e) (map (equation_vars p) es) (renamed p q) ≡ renamed_step p (flex_flex m v w o r e es q)
    flex_flex-vars v w (Some xs) (Some ys) e es = ap (λ b. cond b (same_variable (p v) xs ys (map (equation_vars p) es) (renamed p q)) (two_variables (p v) (p w) xs ys (map (equation_vars p) es) (renamed p q))) (good.one_to_one v w) ∙ cond-step (nat_eq v w) _ _ _ _ (same_variable-vars v xs ys es) (two_variables-vars v w xs ys es)
    flex_flex-vars v w (Some xs) None e es = ap (λ b. cond b (Ends (Faulted Pattern_fault)) (bind_to m' (p v) (Some xs) (vars p e.right) (equation_vars p e) (map (equation_vars p) es) (renamed p q))) (good.one_to_one v w) ∙ cond-step (nat_eq v w) _ _ _ _ refl (bind_to-vars v (Some xs) e.right e es)
    flex_flex-vars v w None r e es = ap (λ b. cond b (Ends (Faulted Pattern_fault)) (bind_to m' (p w) r (vars p e.left) (equation_vars p e) (map (equation_vars p) es) (renamed p q))) (good.one_to_one v w) ∙ cond-step (nat_eq v w) _ _ _ _ refl (bind_to-vars w r e.left e es)

    head_eq-vars : (h k : Head) → head_eq (vars_head p h) (vars_head p k) ≡ head_eq h k
    head_eq-vars (Con a) (Con b) = refl
    head_eq-vars (Int a) (Int b) = refl
    head_eq-vars (Str a) (Str b) = refl
    head_eq-vars (Name a) (Name b) = refl
    head_eq-vars (Bound a) (Bound b) = refl
    head_eq-vars (Var a) (Var b) = good.one_to_one a b
    head_eq-vars _ _ = refl

    equations-vars : (n : ℕ) (xs ys : List Term) → equations_of n (map (vars p) xs) (map (vars p) ys) ≡ map (equation_vars p) (equations_of n xs ys)
    equations-vars n [] ys = refl
    equations-vars n (x ∷ xs) [] = refl
    equations-vars n (x ∷ xs) (y ∷ ys) = ap (λ (zs : List Equation). record { names = n; left = vars p x; right = vars p y } ∷ zs) (equations-vars n xs ys)

    applied-vars : (e : Equation) (es : List Equation) → rule m' Abstraction Abstraction (equation_vars p e) (map (equation_vars p) es) (renamed p q) ≡ renamed_step p (rule m Abstraction Abstraction e es q)
    applied-vars e es = λ i. Goes (record { next_var = p q.next_var; equations = record { names = suc e.names; left = sym (apply-vars p e.left (At (Name e.names))) i; right = sym (apply-vars p e.right (At (Name e.names))) i } ∷ map (equation_vars p) es; bindings = map (binding_vars p) q.bindings })

    rigid-vars : (n : ℕ) (b : Bool) (xs ys : List Term) (es : List Equation) → cond b (Goes (record (renamed p q) { equations = equations_of n (map (vars p) xs) (map (vars p) ys) ++ map (equation_vars p) es })) (Ends (Clashed false)) ≡ renamed_step p (cond b (Goes (record q { equations = equations_of n xs ys ++ es })) (Ends (Clashed false)))
    rigid-vars n false xs ys es = refl
    rigid-vars n true xs ys es =
        let same : equations_of n (map (vars p) xs) (map (vars p) ys) ++ map (equation_vars p) es ≡ map (equation_vars p) (equations_of n xs ys ++ es) = ap (λ zs. zs ++ map (equation_vars p) es) (equations-vars n xs ys) ∙ sym (map-append (equation_vars p) (equations_of n xs ys) es) in
        λ i. Goes (record { next_var = p q.next_var; equations = same i; bindings = map (binding_vars p) q.bindings })

    rule-vars : (s t : Shape) (e : Equation) (es : List Equation) → rule m' (shape_vars s) (shape_vars t) (equation_vars p e) (map (equation_vars p) es) (renamed p q) ≡ renamed_step p (rule m s t e es q)
    unfolding shape_vars
    rule-vars Redex t e es = refl
    rule-vars Abstraction Redex e es = refl
    rule-vars (Rigid h xs) Redex e es = refl
    rule-vars (Flex v xs) Redex e es = refl
    rule-vars (Rigid h xs) (Rigid k ys) e es =
        ap₂ (λ (b c : Bool). cond (b && c) (Goes (record (renamed p q) { equations = equations_of e.names (map (vars p) xs) (map (vars p) ys) ++ map (equation_vars p) es })) (Ends (Clashed false))) (head_eq-vars h k) (ap₂ nat_eq (length-map xs (vars p)) (length-map ys (vars p)))
        ∙ rigid-vars e.names (head_eq h k && nat_eq (length xs) (length ys)) xs ys es
    rule-vars (Flex v xs) (Rigid k ys) e es = ap (λ o. bind_to m' (p v) o (vars p e.right) (equation_vars p e) (map (equation_vars p) es) (renamed p q)) (pattern-vars p xs) ∙ bind_to-vars v (pattern_of xs) e.right e es
    rule-vars (Rigid h xs) (Flex w ys) e es = ap (λ o. bind_to m' (p w) o (vars p e.left) (equation_vars p e) (map (equation_vars p) es) (renamed p q)) (pattern-vars p ys) ∙ bind_to-vars w (pattern_of ys) e.left e es
    rule-vars (Flex v xs) (Flex w ys) e es = ap₂ (λ (o r : Option (List SpineName)). flex_flex m' (p v) (p w) o r (equation_vars p e) (map (equation_vars p) es) (renamed p q)) (pattern-vars p xs) (pattern-vars p ys) ∙ flex_flex-vars v w (pattern_of xs) (pattern_of ys) e es
    rule-vars Abstraction Abstraction e es = applied-vars e es
    rule-vars Abstraction (Rigid k ys) e es = applied-vars e es
    rule-vars Abstraction (Flex w ys) e es = applied-vars e es
    rule-vars (Rigid h xs) Abstraction e es = applied-vars e es
    rule-vars (Flex v xs) Abstraction e es = applied-vars e es

    step_at-vars : (es : List Equation) → step_at m' (map (equation_vars p) es) (renamed p q) ≡ renamed_step p (step_at m es q)
    step_at-vars [] = refl
    step_at-vars (e ∷ es) = ap₂ (λ (a b : Shape). rule m' a b (equation_vars p e) (map (equation_vars p) es) (renamed p q)) (shape-vars e.left) (shape-vars e.right) ∙ rule-vars (shape m e.left) (shape m e.right) e es

    pub step-vars : step m' (renamed p q) ≡ renamed_step p (step m q)
    unfolding step
    step-vars = step_at-vars q.equations
