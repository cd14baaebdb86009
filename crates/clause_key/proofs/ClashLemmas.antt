-- A clause whose key doesn't agree with the goal's clashes.
use Rattle.std.proofs.Common.{◌≡◌, ℕ, suc, ◌<◌, Bool, true, false, cond, ◌||◌, ◌&&◌, nat_eq, List, [], ◌∷◌, ◌++◌, map, length, Option, Some, None, refl, sym, ap, ◌∙◌, subst, arith, option_map, eqb-true, not}
use Rattle.std.specs.Prelude.{unwrap_or}
use Rattle.std.specs.Option.{option_map_or}
use Rattle.std.proofs.lemmas.List.{map-append, length-map}
use Rattle.ref_terms.specs.terms.Term as term
use Rattle.ref_terms.specs.terms.Term.{Term, Head, At, App}
use Rattle.ref_terms.specs.unification.Spine.{args_of, head_of}
use Rattle.ref_terms.specs.unification.Shape as shape
use Rattle.ref_terms.specs.unification.Shape.{Shape, shape}
use Rattle.ref_terms.specs.unification.Problem.{Equation, Problem, Clashed, Solved, Ends, Goes}
use Rattle.ref_terms.specs.unification.Rules.{head_eq, equations_of, rule, step, step_at}
use Rattle.ref_terms.specs.unification.Unification.{unify}
use Rattle.ref_terms.proofs.unification.Steps.{unify-ends}
use Rattle.ref_terms.proofs.unification.HeadLemmas.{apply_headed}
use Rattle.ref_terms.specs.terms.Apply.{fill}
use Rattle.ref_terms.specs.search.Program.{Program, Clause, modes_of, headed_by, is_constant, constant_of}
use Rattle.ref_terms.specs.search.Branch.{Goal, Branch, bound_equation}
use Rattle.ref_terms.specs.search.Instance.{ClauseInstance, clause_instance, instance, fresh_for_variable}
use Rattle.ref_terms.specs.search.Next.{constant_modes}
use Rattle.ref_terms.specs.search.State.{of_program}
use Rattle.ref_terms.specs.search.Strip.{clashes_at, is_clash}
use Rattle.ref_terms.specs.search.Resolve.{Tried, Clashes, equations_at, matched, unified, entered, try}
use Rattle.clause_key.specs.declared.key.Key.{Key}
use Rattle.clause_key.specs.declared.key.Key.TheVariants.{Any}
use Rattle.clause_key.specs.Keys.{key_of_head, key_of, first_input, or_first, key_argument, key_among, atom_key, fits_every, same_key, agree}
use Rattle.clause_key.specs.Laws.{IsCallOf, DisagreeingClauseClashes, DisagreeingClauseIsStripped}
use Rattle.clause_key.proofs.ArgumentLemmas.{input-map}
use Rattle.clause_key.proofs.FormLemmas.{has-head, firm-shape}

-- keys that don't agree
pub record Differ (goal clause : Key) : Type 0 where
  pub goal_firm : fits_every goal ≡ false
  pub clause_firm : fits_every clause ≡ false
  pub differ : same_key clause goal ≡ false

pub disagreeing : (goal clause : Key) → agree goal clause ≡ false → Differ goal clause
disagreeing goal clause e = by (fits_every goal) (fits_every clause) (same_key clause goal) refl refl refl
  where
    by : (a b c : Bool) → fits_every goal ≡ a → fits_every clause ≡ b → same_key clause goal ≡ c → Differ goal clause
    by false false false x y z = record { goal_firm = x; clause_firm = y; differ = z }
    by true b c x y z = absurd (let k : true ≡ false = sym (ap (λ v. v || fits_every clause || same_key clause goal) x) ∙ e in cc)
    by false true c x y z = absurd (let k : true ≡ false = sym (ap (λ v. v || fits_every clause || same_key clause goal) x ∙ ap (λ v. false || v || same_key clause goal) y) ∙ e in cc)
    by false false true x y z =
        absurd (let k : true ≡ false = sym (ap (λ v. v || fits_every clause || same_key clause goal) x ∙ ap (λ v. false || v || same_key clause goal) y ∙ ap (λ v. false || false || v) z) ∙ e in cc)

-- heads with different keys
heads-differ : (h k : Head) → fits_every (key_of_head h) ≡ false → fits_every (key_of_head k) ≡ false → same_key (key_of_head h) (key_of_head k) ≡ false → head_eq h k ≡ false
heads-differ (term.Con a) (term.Con b) f g e = e
heads-differ (term.Con a) (term.Int b) f g e = refl
heads-differ (term.Con a) (term.Str b) f g e = refl
heads-differ (term.Con a) (term.Name b) f g e = refl
heads-differ (term.Con a) (term.Bound b) f g e = refl
heads-differ (term.Con a) (term.Var b) f g e = refl
heads-differ (term.Int a) (term.Int b) f g e = e
heads-differ (term.Int a) (term.Con b) f g e = refl
heads-differ (term.Int a) (term.Str b) f g e = refl
heads-differ (term.Int a) (term.Name b) f g e = refl
heads-differ (term.Int a) (term.Bound b) f g e = refl
heads-differ (term.Int a) (term.Var b) f g e = refl
heads-differ (term.Str a) (term.Str b) f g e = e
heads-differ (term.Str a) (term.Con b) f g e = refl
heads-differ (term.Str a) (term.Int b) f g e = refl
heads-differ (term.Str a) (term.Name b) f g e = refl
heads-differ (term.Str a) (term.Bound b) f g e = refl
heads-differ (term.Str a) (term.Var b) f g e = refl
heads-differ (term.Name a) (term.Name b) f g e = e
heads-differ (term.Name a) (term.Con b) f g e = refl
heads-differ (term.Name a) (term.Int b) f g e = refl
heads-differ (term.Name a) (term.Str b) f g e = refl
heads-differ (term.Name a) (term.Bound b) f g e = refl
heads-differ (term.Name a) (term.Var b) f g e = refl
heads-differ (term.Bound a) k f g e = absurd (let z : true ≡ false = f in cc)
heads-differ (term.Var a) k f g e = absurd (let z : true ≡ false = f in cc)

-- fresh variables leave rigid heads alone
fresh-stay : (names next : ℕ) (h : Head) → fits_every (key_of_head h) ≡ false → fresh_for_variable names next h ≡ At h
fresh-stay names next (term.Var v) e = absurd (let z : true ≡ false = e in cc)
fresh-stay names next (term.Con c) e = refl
fresh-stay names next (term.Int c) e = refl
fresh-stay names next (term.Str c) e = refl
fresh-stay names next (term.Name c) e = refl
fresh-stay names next (term.Bound c) e = refl

-- a head that is left alone stays at the head, before the same arguments, each filled
module _ (r : Head → Term) (h : Head) (stays : r h ≡ At h) where
  pub filled-head : (t : Term) → head_of t ≡ Some h → head_of (fill r t) ≡ Some h
  filled-head (term.Lam b) e = absurd (let k : None ≡ Some h = e in cc)
  filled-head (At k) e =
      let same : h ≡ k = let z : Some k ≡ Some h = e in cc in
      ap head_of (subst (λ q. r q ≡ At q) same stays) ∙ e
  filled-head (App f a) e = let i = filled-head f e in ap head_of (apply_headed (fill r f) (fill r a) h i) ∙ i

  pub filled-args : (t : Term) → head_of t ≡ Some h → args_of (fill r t) ≡ map (fill r) (args_of t)
  filled-args (term.Lam b) e = absurd (let k : None ≡ Some h = e in cc)
  filled-args (At k) e =
      let same : h ≡ k = let z : Some k ≡ Some h = e in cc in
      ap args_of (subst (λ q. r q ≡ At q) same stays)
  filled-args (App f a) e =
      ap args_of (apply_headed (fill r f) (fill r a) h (filled-head f e))
      ∙ ap (λ (xs : List Term). xs ++ fill r a ∷ []) (filled-args f e)
      ∙ sym (map-append (fill r) (args_of f) (a ∷ []))

-- the arguments of a clause's instance are those of the clause, each at the instance
pub instance-args : (names next c : ℕ) (t : Term) → head_of t ≡ Some (term.Con c) → args_of (instance names next t) ≡ map (instance names next) (args_of t)
instance-args names next c t e = filled-args (fresh_for_variable names next) (term.Con c) refl t e

-- the step of two rigid heads that differ
stepped : (m : ℕ) (p : Problem) (e : Equation) (rest : List Equation) (h : Head) (xs : List Term) (k : Head) (ys : List Term) → p.equations ≡ e ∷ rest → shape m e.left ≡ shape.Rigid h xs → shape m e.right ≡ shape.Rigid k ys → head_eq h k ≡ false
    → step m p ≡ Ends (Clashed false)
unfolding step
stepped m p e rest h xs k ys is l r d =
    ap (λ es. step_at m es p) is
    ∙ ap (λ s. rule m s (shape m e.right) e rest p) l
    ∙ ap (λ s. rule m (shape.Rigid h xs) s e rest p) r
    ∙ ap (λ b. cond (b && nat_eq (length xs) (length ys)) (Goes (record p { equations = equations_of e.names xs ys ++ rest })) (Ends (Clashed false))) d

-- no equation is left
nothing : (m v : ℕ) → step m (record { next_var = v; equations = []; bindings = [] }) ≡ Ends (Solved (record { next_var = v; equations = []; bindings = [] }))
unfolding step
nothing m v = refl

-- the head that has this key is left alone
abbrev pub StaysAt : (Head → Term) → Key → Type 0
StaysAt r k = (h : Head) → k ≡ key_of_head h → r h ≡ At h

-- equations that begin with one of two terms whose keys differ, the clause's with its head left alone
pub clashing : (r : Head → Term) (m n : ℕ) (s t : Term) (v : ℕ) (rest : List Equation) → StaysAt r (key_of s) → Differ (key_of t) (key_of s)
    → unify m (record { next_var = v; equations = record { names = n; left = fill r s; right = t } ∷ rest; bindings = [] }) ≡ Clashed false
clashing r m n s t v rest stays d =
    let hs = has-head s d.clause_firm in
    let ht = has-head t d.goal_firm in
    let fs : fits_every (key_of_head hs.head) ≡ false = ap fits_every (sym hs.key) ∙ d.clause_firm in
    let ft : fits_every (key_of_head ht.head) ≡ false = ap fits_every (sym ht.key) ∙ d.goal_firm in
    let left = firm-shape m (fill r s) hs.head (filled-head r hs.head (stays hs.head hs.key) s hs.is) fs in
    let right = firm-shape m t ht.head ht.is ft in
    let differ : head_eq hs.head ht.head ≡ false = heads-differ hs.head ht.head fs ft (ap (same_key (key_of_head hs.head)) (sym ht.key) ∙ ap (λ k. same_key k (key_of t)) (sym hs.key) ∙ d.differ) in
    let e : Equation = record { names = n; left = fill r s; right = t } in
    let p : Problem = record { next_var = v; equations = e ∷ rest; bindings = [] } in
    unify-ends m p (Clashed false) (stepped m p e rest hs.head left.args ht.head right.args refl left.is right.is differ)

-- the first equation of a list
pub record BeginsWith (es : List Equation) (e : Equation) : Type 0 where
  pub rest : List Equation
  pub is : es ≡ e ∷ rest

-- the first input, or none, among the arguments of a clause's head and those of a goal
pub data FirstInput (n : ℕ) (ms : List Bool) (ss ts : List Term) : Type 0 where
  is_there : (s t : Term) → first_input ms ss ≡ Some s → first_input ms ts ≡ Some t → BeginsWith (equations_at true n ms ss ts) (record { names = n; left = s; right = t }) → FirstInput n ms ss ts
  is_absent : first_input ms ss ≡ None → first_input ms ts ≡ None → equations_at true n ms ss ts ≡ [] → FirstInput n ms ss ts

pub first-inputs : (n : ℕ) (ms : List Bool) (ss ts : List Term) → length ss ≡ length ts → FirstInput n ms ss ts
first-inputs n [] [] [] e = is_absent refl refl refl
first-inputs n [] (s ∷ ss) (t ∷ ts) e = is_absent refl refl refl
first-inputs n ms [] (t ∷ ts) e = absurd (let z : 0 ≡ suc (length ts) = e in omega (arith, z))
first-inputs n ms (s ∷ ss) [] e = absurd (let z : suc (length ss) ≡ 0 = e in omega (arith, z))
first-inputs n (true ∷ ms) [] [] e = is_absent refl refl refl
first-inputs n (false ∷ ms) [] [] e = is_absent refl refl refl
first-inputs n (true ∷ ms) (s ∷ ss) (t ∷ ts) e = is_there s t refl refl (record { rest = equations_at true n ms ss ts; is = refl })
first-inputs n (false ∷ ms) (s ∷ ss) (t ∷ ts) e = later (first-inputs n ms ss ts (let z : suc (length ss) ≡ suc (length ts) = e in omega (arith, z)))
  where
    later : FirstInput n ms ss ts → FirstInput n (false ∷ ms) (s ∷ ss) (t ∷ ts)
    later (is_there u v x y z) = is_there u v x y (record { rest = z.rest; is = z.is })
    later (is_absent x y z) = is_absent x y z

-- without an input, the first argument is the first output
pub first-output : (n : ℕ) (ms : List Bool) (s t : Term) (ss ts : List Term) → length ms ≡ suc (length ts) → first_input ms (s ∷ ss) ≡ None → BeginsWith (equations_at false n ms (s ∷ ss) (t ∷ ts)) (record { names = n; left = s; right = t })
first-output n [] s t ss ts l e = absurd (let z : 0 ≡ suc (length ts) = l in omega (arith, z))
first-output n (true ∷ ms) s t ss ts l e = absurd (let z : Some s ≡ None = e in cc)
first-output n (false ∷ ms) s t ss ts l e = record { rest = equations_at false n ms ss ts; is = refl }

-- the key among arguments, by the argument that has it
key-by : (ms : List Bool) (ts : List Term) (t : Term) → key_argument ms ts ≡ Some t → key_among ms ts ≡ key_of t
key-by ms ts t e = ap (λ o. option_map_or key_of o Any) e

-- inputs that are matched first, and then outputs, with the first of them a clash
module _ (r : Head → Term) (names v : ℕ) (b e : Branch) (ms : List Bool) (us ts : List Term) (long : length us ≡ length ts) (stated : length ts ≡ length ms) (stays : StaysAt r (key_among ms us)) (differ : Differ (key_among ms ts) (key_among ms us)) where
  abbrev ss : List Term
  ss = map (fill r) us

  abbrev inputs : Problem
  inputs = record { next_var = v; equations = equations_at true names ms ss ts; bindings = [] }

  abbrev outputs : List Equation
  outputs = equations_at false names ms ss ts

  abbrev result : Tried
  result = matched unify e outputs (unify b.next_var inputs)

  -- the first input decides
  by-input : (u t : Term) (rest : List Equation) → first_input ms us ≡ Some u → first_input ms ts ≡ Some t → equations_at true names ms ss ts ≡ record { names = names; left = fill r u; right = t } ∷ rest → result ≡ Clashes
  by-input u t rest x y z =
      let ku : key_among ms us ≡ key_of u = key-by ms us u (ap (λ o. or_first o us) x) in
      let d : Differ (key_of t) (key_of u) = subst (λ k. Differ k (key_of u)) (key-by ms ts t (ap (λ o. or_first o ts) y)) (subst (Differ (key_among ms ts)) (key-by ms us u (ap (λ o. or_first o us) x)) differ) in
      ap (λ es. matched unify e outputs (unify b.next_var (record { next_var = v; equations = es; bindings = [] }))) z
      ∙ ap (matched unify e outputs) (clashing r b.next_var names u t v rest (λ h k. stays h (ku ∙ k)) d)

  -- without inputs the first output does
  by-output : first_input ms us ≡ None → first_input ms ts ≡ None → equations_at true names ms ss ts ≡ [] → (us' ts' : List Term) → us ≡ us' → ts ≡ ts' → result ≡ Clashes
  by-output x y z [] ts' p q = absurd (let k : true ≡ false = sym (ap (λ o. fits_every (option_map_or key_of o Any)) (ap (λ o. or_first o us) x ∙ ap (or_first None) p)) ∙ differ.clause_firm in cc)
  by-output x y z (u ∷ us') [] p q = absurd (let k : true ≡ false = sym (ap (λ o. fits_every (option_map_or key_of o Any)) (ap (λ o. or_first o ts) y ∙ ap (or_first None) q)) ∙ differ.goal_firm in cc)
  by-output x y z (u ∷ us') (t ∷ ts') p q =
      let ku : key_among ms us ≡ key_of u = key-by ms us u (ap (λ o. or_first o us) x ∙ ap (or_first None) p) in
      let kt : key_among ms ts ≡ key_of t = key-by ms ts t (ap (λ o. or_first o ts) y ∙ ap (or_first None) q) in
      let d : Differ (key_of t) (key_of u) = subst (λ k. Differ k (key_of u)) kt (subst (Differ (key_among ms ts)) ku differ) in
      let none : first_input ms (fill r u ∷ map (fill r) us') ≡ None =
      ap (λ xs. first_input ms (map (fill r) xs)) (sym p) ∙ input-map (fill r) ms us ∙ ap (option_map (fill r)) x in
      let o = first-output names ms (fill r u) t (map (fill r) us') ts' (sym stated ∙ ap length q) none in
      let is : outputs ≡ record { names = names; left = fill r u; right = t } ∷ o.rest = ap (λ xs. equations_at false names ms (map (fill r) xs) ts) p ∙ ap (equations_at false names ms (map (fill r) (u ∷ us'))) q ∙ o.is in
      ap (λ es. matched unify e outputs (unify b.next_var (record { next_var = v; equations = es; bindings = [] }))) z
      ∙ ap (matched unify e outputs) (unify-ends b.next_var (record { next_var = v; equations = []; bindings = [] }) (Solved (record { next_var = v; equations = []; bindings = [] })) (nothing b.next_var v))
      ∙ ap (λ es. unified e [] (unify 0 (record { next_var = v; equations = map (bound_equation []) es; bindings = [] }))) is
      ∙ ap (unified e []) (ap (λ (f : Equation). unify 0 (record { next_var = v; equations = f ∷ map (bound_equation []) o.rest; bindings = [] })) refl ∙ clashing r 0 names u t v (map (bound_equation []) o.rest) (λ h k. stays h (ku ∙ k)) d)

  pub tried-clashes : result ≡ Clashes
  tried-clashes = by (first-inputs names ms us ts long) (first-inputs names ms ss ts (length-map us (fill r) ∙ long))
    where
      by : FirstInput names ms us ts → FirstInput names ms ss ts → result ≡ Clashes
      by (is_there u t x y w) (is_there s t' x' y' w') =
          let at : fill r u ≡ s = let k : Some (fill r u) ≡ Some s = sym (ap (option_map (fill r)) x) ∙ sym (input-map (fill r) ms us) ∙ x' in cc in
          let same : t' ≡ t = let k : Some t' ≡ Some t = sym y' ∙ y in cc in
          by-input u t w'.rest x y (w'.is ∙ (λ i. record { names = names; left = sym at i; right = same i } ∷ w'.rest))
      by (is_there u t x y w) (is_absent x' y' w') = absurd (let k : Some t ≡ None = sym y ∙ y' in cc)
      by (is_absent x y w) (is_there s t x' y' w') = absurd (let k : None ≡ Some t = sym y ∙ y' in cc)
      by (is_absent x y w) (is_absent x' y' w') = by-output x y w' us ts refl refl

-- the constant at a head that is this one
pub constant-at : (c : ℕ) (t : Term) → headed_by c t ≡ true → head_of t ≡ Some (term.Con c)
constant-at c t e = by (head_of t) refl
  where
    by : (o : Option Head) → head_of t ≡ o → head_of t ≡ Some (term.Con c)
    by None n = absurd (let k : false ≡ true = sym (ap (λ o. is_constant c (constant_of o)) n) ∙ e in cc)
    by (Some (term.Con d)) n = n ∙ ap (λ z. Some (term.Con z)) (sym (eqb-true c d (sym (ap (λ o. is_constant c (constant_of o)) n) ∙ e)))
    by (Some (term.Int d)) n = absurd (let k : false ≡ true = sym (ap (λ o. is_constant c (constant_of o)) n) ∙ e in cc)
    by (Some (term.Str d)) n = absurd (let k : false ≡ true = sym (ap (λ o. is_constant c (constant_of o)) n) ∙ e in cc)
    by (Some (term.Name d)) n = absurd (let k : false ≡ true = sym (ap (λ o. is_constant c (constant_of o)) n) ∙ e in cc)
    by (Some (term.Bound d)) n = absurd (let k : false ≡ true = sym (ap (λ o. is_constant c (constant_of o)) n) ∙ e in cc)
    by (Some (term.Var d)) n = absurd (let k : false ≡ true = sym (ap (λ o. is_constant c (constant_of o)) n) ∙ e in cc)

-- the key of an atom of a constant with these modes
pub atom-key : (p : Program) (c : ℕ) (ms : List Bool) (t : Term) → head_of t ≡ Some (term.Con c) → modes_of p c ≡ Some ms → atom_key p t ≡ key_among ms (args_of t)
atom-key p c ms t h m = ap (λ o. key_among (unwrap_or (constant_modes p (constant_of o)) []) (args_of t)) h ∙ ap (λ o. key_among (unwrap_or o []) (args_of t)) m

-- the arguments of the clause's instance against those of the goal
module _ (p : Program) (c i barrier : ℕ) (k : Clause) (b : Branch) (goal : Goal) (rest : List Goal) (call : IsCallOf p c goal) (headed : head_of k.head ≡ Some (term.Con c)) (differ : Differ (key_among call.inputs (args_of goal.term)) (key_among call.inputs (args_of k.head))) where
  abbrev made : ClauseInstance
  made = clause_instance k goal.names b.next_var

  abbrev branch : Branch
  branch = entered b goal rest barrier (of_program i k) made.body

  -- the inputs and then the outputs, where there are as many
  abbrev attempt : List Term → Tried
  attempt ss = matched unify branch (equations_at false goal.names call.inputs ss (args_of goal.term))
      (unify b.next_var (record { next_var = made.next_var; equations = equations_at true goal.names call.inputs ss (args_of goal.term); bindings = [] }))

  same-args : args_of made.head ≡ map (instance goal.names b.next_var) (args_of k.head)
  same-args = instance-args goal.names b.next_var c k.head headed

  by-count : (same : Bool) → nat_eq (length (args_of made.head)) (length (args_of goal.term)) ≡ same → cond same (attempt (args_of made.head)) Clashes ≡ Clashes
  by-count false e = refl
  by-count true e =
      let long : length (args_of k.head) ≡ length (args_of goal.term) =
      sym (length-map (args_of k.head) (instance goal.names b.next_var)) ∙ ap length (sym same-args) ∙ eqb-true (length (args_of made.head)) (length (args_of goal.term)) e in
      ap attempt same-args
      ∙ tried-clashes (fresh_for_variable goal.names b.next_var) goal.names made.next_var b branch call.inputs (args_of k.head) (args_of goal.term) long call.count (λ h q. fresh-stay goal.names b.next_var h (ap fits_every (sym q) ∙ differ.clause_firm)) differ

  pub clashes-at : try unify (Some call.inputs) b goal rest barrier (of_program i k) ≡ Clashes
  clashes-at =
      ap (λ same. cond same (attempt (args_of made.head)) Clashes) refl ∙ by-count (nat_eq (length (args_of made.head)) (length (args_of goal.term))) refl

pub disagreeing-clashes : DisagreeingClauseClashes
disagreeing-clashes p c i barrier k b goal rest call headed d =
    let at = constant-at c k.head headed in
    let goal_key : atom_key p goal.term ≡ key_among call.inputs (args_of goal.term) = atom-key p c call.inputs goal.term call.constant call.stated in
    let clause_key : atom_key p k.head ≡ key_among call.inputs (args_of k.head) = atom-key p c call.inputs k.head at call.stated in
    let differ : Differ (key_among call.inputs (args_of goal.term)) (key_among call.inputs (args_of k.head)) =
    disagreeing (key_among call.inputs (args_of goal.term)) (key_among call.inputs (args_of k.head)) (ap (agree (key_among call.inputs (args_of goal.term))) (sym clause_key) ∙ ap (λ z. agree z (atom_key p k.head)) (sym goal_key) ∙ d) in
    ap (λ o. try unify o b goal rest barrier (of_program i k)) call.stated ∙ clashes-at p c i barrier k b goal rest call at differ

pub disagreeing-stripped : DisagreeingClauseIsStripped
disagreeing-stripped p c i k b goal rest is call headed d =
    ap (λ gs. not (clashes_at unify p b gs (of_program i k))) is
    ∙ ap (λ o. not (is_clash (try unify (constant_modes p (constant_of o)) b goal rest 0 (of_program i k)))) call.constant
    ∙ ap (λ t. not (is_clash t)) (disagreeing-clashes p c i 0 k b goal rest call headed d)
