-- The predicates of a program, by its declarations and its clauses.
use Rattle.std.proofs.Common.{◌≡◌, ◌∙◌, ℕ, ◌<◌, Bool, true, false, cond, nat_eq, List, [], ◌∷◌, ◌++◌, map, length, replicate, Option, Some, None, is_some, option_map, option_to_list, refl, ap, sym, subst, arith, ◌+◌, get_or, take}
use Rattle.std.proofs.lemmas.Bool.Decides.{nat_tests}
use Rattle.std.proofs.lemmas.List.{length-map, take_more}
use Rattle.std.specs.Option.{option_map_or}
use Rattle.ref_terms.specs.unification.Spine as spine
use Rattle.ref_terms.specs.search.Front.{term_of}
use Rattle.ref_terms.specs.search.Program as plain
use Rattle.ref_terms.specs.declared.tree.Tree.{Tree}
use Rattle.lp_resolve.specs.declared.program.Pred.{Pred}
use Rattle.lp_resolve.specs.declared.program.PredLine.{PredLine}
use Rattle.lp_resolve.specs.declared.program.ClauseTree.{ClauseTree}
use Rattle.lp_resolve.specs.Heads.{constant_of, args_of}
use Rattle.lp_resolve.specs.StaticRules.{lacks_constant}
use Rattle.lp_resolve.specs.Preds.{pred_at, with_pred}
use Rattle.lp_resolve.specs.Gathered.{declared_as, undeclared_as}
use Rattle.lp_resolve.specs.Laws.{declared_first, is_headed, headed_first, or_else}
use Rattle.lp_resolve.specs.Plain.{plain_pred, plain_clause}
use Rattle.clause_compile.specs.Programs.{inputs_of}
use Rattle.clause_compile.specs.inside.Fit.{AllHeaded, MadeOf}
use Rattle.clause_compile.proofs.AtomLemmas.{atom-headed, atom-args, constant-there}

-- one clause
headed-one : (s : ℕ) (c : ClauseTree) → lacks_constant c.head ≡ false → (rest : Option Pred) (other : Option (List Bool)) → inputs_of rest ≡ other →
    inputs_of (cond (is_headed s c) (Some (undeclared_as c)) rest) ≡ cond (plain.headed_by s (term_of 0 c.head)) (Some (replicate (length (spine.args_of (term_of 0 c.head))) false)) other
headed-one s c e rest other r =
    let w = constant-there c.head e in
    let long : length (args_of c.head) ≡ length (spine.args_of (term_of 0 c.head)) = sym (ap length (atom-args c.head w.0 w.1) ∙ length-map (args_of c.head) (term_of 0)) in
    let tree : is_headed s c ≡ nat_eq s w.0 = ap (λ o. option_map_or (nat_eq s) o false) w.1 in
    let plain : plain.headed_by s (term_of 0 c.head) ≡ nat_eq s w.0 = ap (λ o. plain.is_constant s (plain.constant_of o)) (atom-headed c.head w.0 w.1) in
    ap (λ b. inputs_of (cond b (Some (undeclared_as c)) rest)) tree
    ∙ go (nat_eq s w.0) long
    ∙ sym (ap (λ b. cond b (Some (replicate (length (spine.args_of (term_of 0 c.head))) false)) other) plain)
  where
    go : (b : Bool) → length (args_of c.head) ≡ length (spine.args_of (term_of 0 c.head)) → inputs_of (cond b (Some (undeclared_as c)) rest) ≡ cond b (Some (replicate (length (spine.args_of (term_of 0 c.head))) false)) other
    go true l = ap (λ n. Some (replicate n false)) l
    go false l = r

headed-are : (s : ℕ) (cs : List ClauseTree) → AllHeaded cs → inputs_of (headed_first s cs) ≡ plain.from_clauses s (map plain_clause cs)
headed-are s [] w = refl
headed-are s (c ∷ cs) w = headed-one s c w.0 (headed_first s cs) (plain.from_clauses s (map plain_clause cs)) (headed-are s cs w.1)

declared-are : (s : ℕ) (ds : List PredLine) (rest : Option Pred) (other : Option (List Bool)) → inputs_of rest ≡ other → inputs_of (or_else (declared_first s ds) rest) ≡ plain.declared s (map plain_pred ds) other
declared-are s [] rest other r = r
declared-are s (d ∷ ds) rest other r = go (nat_eq s d.name.0) (declared-are s ds rest other r)
  where
    go : (b : Bool) → inputs_of (or_else (declared_first s ds) rest) ≡ plain.declared s (map plain_pred ds) other → inputs_of (or_else (cond b (Some (declared_as d)) (declared_first s ds)) rest) ≡ cond b (Some d.inputs) (plain.declared s (map plain_pred ds) other)
    go true e = refl
    go false e = e

-- the modes of a predicate are the inputs of the first declaration, or else of the first clause
pub modes-are : (s : ℕ) (ds : List PredLine) (cs : List ClauseTree) → AllHeaded cs → inputs_of (or_else (declared_first s ds) (headed_first s cs)) ≡ plain.declared s (map plain_pred ds) (plain.from_clauses s (map plain_clause cs))
modes-are s ds cs w = declared-are s ds (headed_first s cs) (plain.from_clauses s (map plain_clause cs)) (headed-are s cs w)

-- the same symbol
swapped-same : {A : Type 0} (s n k : ℕ) (x y z : A) → nat_eq n k ≡ true → cond (nat_eq s k) x z ≡ cond (nat_eq s n) x (cond (nat_eq s k) y z)
swapped-same s n k x y z e = grind (arith, nat_tests)

-- another one
swapped-other : {A : Type 0} (s n k : ℕ) (x y z : A) → nat_eq n k ≡ false → cond (nat_eq s k) y (cond (nat_eq s n) x z) ≡ cond (nat_eq s n) x (cond (nat_eq s k) y z)
swapped-other s n k x y z e = grind (arith, nat_tests)

-- a predicate in the list with one more
lookup-with : (s n : ℕ) (p : Pred) (preds : List (ℕ × Pred)) → pred_at s (with_pred n p preds) ≡ cond (nat_eq s n) (Some p) (pred_at s preds)
lookup-with s n p [] = refl
lookup-with s n p (e ∷ es) = at (nat_eq n e.0) refl (lookup-with s n p es) where
  at : (b : Bool) → nat_eq n e.0 ≡ b → pred_at s (with_pred n p es) ≡ cond (nat_eq s n) (Some p) (pred_at s es)
      → pred_at s (cond b ((e.0, p) ∷ es) (e ∷ with_pred n p es)) ≡ cond (nat_eq s n) (Some p) (cond (nat_eq s e.0) (Some e.1) (pred_at s es))
  at true same rest = swapped-same s n e.0 (Some p) (Some e.1) (pred_at s es) same
  at false other rest = ap (λ o. cond (nat_eq s e.0) (Some e.1) o) rest ∙ swapped-other s n e.0 (Some p) (Some e.1) (pred_at s es) other

-- a predicate that is there stays; a new one is put last
pub made-same : (old : List (ℕ × Pred)) → MadeOf old old (λ s. None)
made-same old s = go (pred_at s old)
  where
    go : (o : Option Pred) → o ≡ or_else o None
    go None = refl
    go (Some p) = refl

eq_same : (s n : ℕ) → nat_eq s n ≡ true → s ≡ n
eq_same s n e = grind (arith, nat_tests, e)

-- there already
pub made-there : (n : ℕ) (p q : Pred) (old : List (ℕ × Pred)) → pred_at n old ≡ Some q → MadeOf old old (λ s. cond (nat_eq s n) (Some p) None)
made-there n p q old e s = go (nat_eq s n) refl (pred_at s old) refl
  where
    go : (b : Bool) → nat_eq s n ≡ b → (o : Option Pred) → pred_at s old ≡ o → o ≡ or_else o (cond b (Some p) None)
    go true k None f = absurd (let z : None ≡ Some q = sym f ∙ ap (λ i. pred_at i old) (eq_same s n k) ∙ e in cc)
    go false k None f = refl
    go b k (Some r) f = refl

-- and new
pub made-new : (n : ℕ) (p : Pred) (old : List (ℕ × Pred)) → pred_at n old ≡ None → MadeOf old (with_pred n p old) (λ s. cond (nat_eq s n) (Some p) None)
made-new n p old e s = lookup-with s n p old ∙ go (nat_eq s n) refl (pred_at s old) refl
  where
    go : (b : Bool) → nat_eq s n ≡ b → (o : Option Pred) → pred_at s old ≡ o → cond b (Some p) o ≡ or_else o (cond b (Some p) None)
    go true k None f = refl
    go true k (Some r) f = absurd (let z : Some r ≡ None = sym f ∙ ap (λ i. pred_at i old) (eq_same s n k) ∙ e in cc)
    go false k None f = refl
    go false k (Some r) f = refl

-- one more, after those
or-else : (a b c : Option Pred) → or_else (or_else a b) c ≡ or_else a (or_else b c)
or-else None b c = refl
or-else (Some a) b c = refl

declared-last : (s : ℕ) (ds : List PredLine) (d : PredLine) → declared_first s (ds ++ d ∷ []) ≡ or_else (declared_first s ds) (cond (nat_eq s d.name.0) (Some (declared_as d)) None)
declared-last s [] d = refl
declared-last s (x ∷ ds) d = go (nat_eq s x.name.0) (declared-last s ds d)
  where
    go : (b : Bool) → declared_first s (ds ++ d ∷ []) ≡ or_else (declared_first s ds) (cond (nat_eq s d.name.0) (Some (declared_as d)) None) → cond b (Some (declared_as x)) (declared_first s (ds ++ d ∷ [])) ≡ or_else (cond b (Some (declared_as x)) (declared_first s ds)) (cond (nat_eq s d.name.0) (Some (declared_as d)) None)
    go true e = refl
    go false e = e

headed-last : (s : ℕ) (cs : List ClauseTree) (c : ClauseTree) → headed_first s (cs ++ c ∷ []) ≡ or_else (headed_first s cs) (cond (is_headed s c) (Some (undeclared_as c)) None)
headed-last s [] c = refl
headed-last s (x ∷ cs) c = go (is_headed s x) (headed-last s cs c)
  where
    go : (b : Bool) → headed_first s (cs ++ c ∷ []) ≡ or_else (headed_first s cs) (cond (is_headed s c) (Some (undeclared_as c)) None) → cond b (Some (undeclared_as x)) (headed_first s (cs ++ c ∷ [])) ≡ or_else (cond b (Some (undeclared_as x)) (headed_first s cs)) (cond (is_headed s c) (Some (undeclared_as c)) None)
    go true e = refl
    go false e = e

pub lines-more : (a b c : List (ℕ × Pred)) (ds : List PredLine) (i : ℕ) (d : PredLine) → i < length ds → d ≡ get_or ds i d → MadeOf a b (λ s. declared_first s (take i ds)) → MadeOf b c (λ s. cond (nat_eq s d.name.0) (Some (declared_as d)) None) → MadeOf a c (λ s. declared_first s (take (i + 1) ds))
lines-more a b c ds i d h e v w s =
    w s ∙ ap (λ o. or_else o (cond (nat_eq s d.name.0) (Some (declared_as d)) None)) (v s)
    ∙ or-else (pred_at s a) (declared_first s (take i ds)) (cond (nat_eq s d.name.0) (Some (declared_as d)) None)
    ∙ ap (or_else (pred_at s a)) (sym (declared-last s (take i ds) d) ∙ ap (declared_first s) (sym (take_more ds i d h ∙ ap (λ (x : PredLine). take i ds ++ x ∷ []) (sym e))))

pub clauses-more : (a b c : List (ℕ × Pred)) (ks : List ClauseTree) (i : ℕ) (k : ClauseTree) → i < length ks → k ≡ get_or ks i k → MadeOf a b (λ s. headed_first s (take i ks)) → MadeOf b c (λ s. cond (is_headed s k) (Some (undeclared_as k)) None) → MadeOf a c (λ s. headed_first s (take (i + 1) ks))
clauses-more a b c ks i k h e v w s =
    w s ∙ ap (λ o. or_else o (cond (is_headed s k) (Some (undeclared_as k)) None)) (v s)
    ∙ or-else (pred_at s a) (headed_first s (take i ks)) (cond (is_headed s k) (Some (undeclared_as k)) None)
    ∙ ap (or_else (pred_at s a)) (sym (headed-last s (take i ks) k) ∙ ap (headed_first s) (sym (take_more ks i k h ∙ ap (λ (x : ClauseTree). take i ks ++ x ∷ []) (sym e))))

-- a clause without a constant at its head makes none
pub made-headless : (old : List (ℕ × Pred)) (c : ClauseTree) → constant_of c.head ≡ None → MadeOf old old (λ s. cond (is_headed s c) (Some (undeclared_as c)) None)
made-headless old c e s = made-same old s ∙ ap (λ b. or_else (pred_at s old) (cond b (Some (undeclared_as c)) None)) (sym (ap (λ o. option_map_or (nat_eq s) o false) e))

-- and with one as a declaration
pub made-headed : (old new : List (ℕ × Pred)) (c : ClauseTree) (n : ℕ) → constant_of c.head ≡ Some n → MadeOf old new (λ s. cond (nat_eq s n) (Some (undeclared_as c)) None) → MadeOf old new (λ s. cond (is_headed s c) (Some (undeclared_as c)) None)
made-headed old new c n e w s = w s ∙ ap (λ b. or_else (pred_at s old) (cond b (Some (undeclared_as c)) None)) (sym (ap (λ o. option_map_or (nat_eq s) o false) e))

-- the predicates of a program's code have the program's modes
pub code-preds : (s : ℕ) (none a b : List (ℕ × Pred)) (ds : List PredLine) (cs : List ClauseTree) → none ≡ [] → MadeOf none a (λ t. declared_first t ds) → MadeOf a b (λ t. headed_first t cs) → AllHeaded cs →
    inputs_of (pred_at s b) ≡ plain.declared s (map plain_pred ds) (plain.from_clauses s (map plain_clause cs))
code-preds s none a b ds cs e v w h =
    ap inputs_of (w s ∙ ap (λ o. or_else o (headed_first s cs)) (v s ∙ ap (λ (ps : List (ℕ × Pred)). or_else (pred_at s ps) (declared_first s ds)) e))
    ∙ modes-are s ds cs h

-- a clause's body
pub plain-body : (c : ClauseTree) → option_to_list (plain_clause c).body ≡ map (term_of 0) (option_to_list c.body)
plain-body c = go c.body
  where
    go : (o : Option Tree) → option_to_list (option_map (term_of 0) o) ≡ map (term_of 0) (option_to_list o)
    go None = refl
    go (Some t) = refl

-- no predicate
pub none-of : (o : Option Pred) → is_some o ≡ false → o ≡ None
none-of None e = refl
none-of (Some p) e = absurd (let k : true ≡ false = e in cc)

-- the predicate of a declaration was put last
pub line-made : (d : PredLine) (xs : List Bool) (old new : List (ℕ × Pred)) → xs ≡ d.inputs → pred_at d.name.0 old ≡ None → new ≡ with_pred d.name.0 (record { declared = true; inputs = xs }) old → MadeOf old new (λ s. cond (nat_eq s d.name.0) (Some (declared_as d)) None)
line-made d xs old new e k is =
    let same : new ≡ with_pred d.name.0 (declared_as d) old = is ∙ ap (λ (ys : List Bool). with_pred d.name.0 (record { declared = true; inputs = ys }) old) e in
    subst (λ (ps : List (ℕ × Pred)). MadeOf old ps (λ s. cond (nat_eq s d.name.0) (Some (declared_as d)) None)) (sym same) (made-new d.name.0 (declared_as d) old k)

-- that of a clause
pub clause-made : (c : ClauseTree) (n : ℕ) (xs : List Bool) (old new : List (ℕ × Pred)) → constant_of c.head ≡ Some n → xs ≡ replicate (length (args_of c.head)) false → pred_at n old ≡ None → new ≡ with_pred n (record { declared = false; inputs = xs }) old →
    MadeOf old new (λ s. cond (is_headed s c) (Some (undeclared_as c)) None)
clause-made c n xs old new h e k is =
    let same : new ≡ with_pred n (undeclared_as c) old = is ∙ ap (λ (ys : List Bool). with_pred n (record { declared = false; inputs = ys }) old) e in
    made-headed old new c n h (subst (λ (ps : List (ℕ × Pred)). MadeOf old ps (λ s. cond (nat_eq s n) (Some (undeclared_as c)) None)) (sym same) (made-new n (undeclared_as c) old k))
