-- The predicate of a symbol, by its first declaration or its first clause.
use Rattle.std.proofs.Common.{◌≡◌, ◌∙◌, ℕ, Bool, true, false, cond, nat_eq, List, [], ◌∷◌, Option, Some, None, fold, ap, sym, refl, subst}
use Rattle.std.proofs.Common.{arith}
use Rattle.std.proofs.lemmas.Bool.Decides.{nat_tests}
use Rattle.std.specs.Option.{option_map_or}
use Rattle.lp_resolve.specs.declared.program.Pred.{Pred}
use Rattle.lp_resolve.specs.declared.program.PredLine.{PredLine}
use Rattle.lp_resolve.specs.declared.program.ClauseTree.{ClauseTree}
use Rattle.lp_resolve.specs.Heads.{constant_of}
use Rattle.lp_resolve.specs.Places.{is_before}
use Rattle.lp_resolve.specs.Preds.{pred_at, with_pred}
use Rattle.lp_resolve.specs.Gathered.{Sight, declaration, clause, with_line, clauses_alone, merged, declared_as, undeclared_as, with_declaration, with_clause, seen, gathered}
use Rattle.lp_resolve.specs.Laws.{declared_first, is_headed, headed_first, or_else}

-- a predicate after a declaration of its symbol
abbrev declared_after : Option Pred → Pred → Option Pred
declared_after None p = Some p
declared_after (Some q) p = cond q.declared (Some q) (Some p)

-- and after a clause with it at its head
abbrev clause_after : Option Pred → Pred → Option Pred
clause_after None p = Some p
clause_after (Some q) p = Some q

module _ (s : ℕ) where
  -- the predicate of the symbol after one more declaration or clause
  abbrev after : Option Pred → Sight → Option Pred
  after v (declaration d) = cond (nat_eq s d.name.0) (declared_after v (declared_as d)) v
  after v (clause c) = cond (is_headed s c) (clause_after v (undeclared_as c)) v

  -- its predicate at the end, from what it is so far, its first declaration and its first clause among those that are left
  abbrev final : Option Pred → Option Pred → Option Pred → Option Pred
  final None d h = or_else d h
  final (Some q) d h = cond q.declared (Some q) (or_else d (Some q))

  -- a declaration makes no difference to the end
  final-declaration : (v : Option Pred) (d : PredLine) (lines : List PredLine) (h : Option Pred)
      → final (after v (declaration d)) (declared_first s lines) h ≡ final v (declared_first s (d ∷ lines)) h
  final-declaration v d lines h = at (nat_eq s d.name.0) v where
    here : (v : Option Pred) (b : Bool) (q : Pred) → q.declared ≡ b → final (cond b (Some q) (Some (declared_as d))) (declared_first s lines) h ≡ cond b (Some q) (Some (declared_as d))
    here v true q e = rw e refl
    here v false q e = refl

    at : (b : Bool) (v : Option Pred) → final (cond b (declared_after v (declared_as d)) v) (declared_first s lines) h ≡ final v (cond b (Some (declared_as d)) (declared_first s lines)) h
    at true None = refl
    at true (Some q) = here v q.declared q refl
    at false v = refl

  -- nor does a clause
  final-clause : (v d : Option Pred) (c : ClauseTree) (clauses : List ClauseTree)
      → final (after v (clause c)) d (headed_first s clauses) ≡ final v d (headed_first s (c ∷ clauses))
  final-clause v d c clauses = at (is_headed s c) v where
    at : (b : Bool) (v : Option Pred) → final (cond b (clause_after v (undeclared_as c)) v) d (headed_first s clauses) ≡ final v d (cond b (Some (undeclared_as c)) (headed_first s clauses))
    at true None = refl
    at true (Some q) = refl
    at false None = refl
    at false (Some q) = refl

  -- clauses alone
  fold-clauses : (v : Option Pred) (clauses : List ClauseTree) → fold after v (clauses_alone clauses) ≡ final v None (headed_first s clauses)
  fold-clauses None [] = refl
  fold-clauses (Some q) [] = at q.declared where
    at : (b : Bool) → Some q ≡ cond b (Some q) (Some q)
    at true = refl
    at false = refl
  fold-clauses v (c ∷ clauses) = fold-clauses (after v (clause c)) clauses ∙ final-clause v None c clauses

  -- a declaration among clauses
  fold-line : (d : PredLine) (lines : List PredLine) → ((v : Option Pred) (clauses : List ClauseTree) → fold after v (merged lines clauses) ≡ final v (declared_first s lines) (headed_first s clauses))
      → (v : Option Pred) (clauses : List ClauseTree) → fold after v (with_line d (merged lines) clauses) ≡ final v (declared_first s (d ∷ lines)) (headed_first s clauses)
  fold-line d lines rest v [] = rest (after v (declaration d)) [] ∙ final-declaration v d lines None
  fold-line d lines rest v (c ∷ clauses) = at (is_before c.places.head d.place) (fold-line d lines rest (after v (clause c)) clauses) where
    at : (b : Bool) → fold after (after v (clause c)) (with_line d (merged lines) clauses) ≡ final (after v (clause c)) (declared_first s (d ∷ lines)) (headed_first s clauses)
        → fold after v (cond b (clause c ∷ with_line d (merged lines) clauses) (declaration d ∷ merged lines (c ∷ clauses))) ≡ final v (declared_first s (d ∷ lines)) (headed_first s (c ∷ clauses))
    at true e = e ∙ final-clause v (declared_first s (d ∷ lines)) c clauses
    at false e = rest (after v (declaration d)) (c ∷ clauses) ∙ final-declaration v d lines (headed_first s (c ∷ clauses))

  -- all of them
  fold-merged : (lines : List PredLine) (v : Option Pred) (clauses : List ClauseTree) → fold after v (merged lines clauses) ≡ final v (declared_first s lines) (headed_first s clauses)
  fold-merged [] v clauses = fold-clauses v clauses
  fold-merged (d ∷ lines) v clauses = fold-line d lines (fold-merged lines) v clauses

-- the same symbol
swapped-same : {A : Type 0} (s n k : ℕ) (x y z : A) → nat_eq n k ≡ true → cond (nat_eq s k) x z ≡ cond (nat_eq s n) x (cond (nat_eq s k) y z)
swapped-same s n k x y z e = grind (arith, nat_tests)

-- another one
swapped-other : {A : Type 0} (s n k : ℕ) (x y z : A) → nat_eq n k ≡ false → cond (nat_eq s k) y (cond (nat_eq s n) x z) ≡ cond (nat_eq s n) x (cond (nat_eq s k) y z)
swapped-other s n k x y z e = grind (arith, nat_tests)

-- a predicate in the list with one more
lookup-with : (s n : ℕ) (p : Pred) (preds : List (ℕ × Pred)) → pred_at s (with_pred n p preds) ≡ cond (nat_eq s n) (Some p) (pred_at s preds)
lookup-with s n p [] = refl
lookup-with s n p (e ∷ es) = at (nat_eq n e.0) refl (lookup-with s n p es) where
  at : (b : Bool) → nat_eq n e.0 ≡ b → pred_at s (with_pred n p es) ≡ cond (nat_eq s n) (Some p) (pred_at s es)
      → pred_at s (cond b ((e.0, p) ∷ es) (e ∷ with_pred n p es)) ≡ cond (nat_eq s n) (Some p) (cond (nat_eq s e.0) (Some e.1) (pred_at s es))
  at true same rest = swapped-same s n e.0 (Some p) (Some e.1) (pred_at s es) same
  at false other rest = ap (λ o. cond (nat_eq s e.0) (Some e.1) o) rest ∙ swapped-other s n e.0 (Some p) (Some e.1) (pred_at s es) other

-- a predicate that is there
same-or : (s n : ℕ) (preds : List (ℕ × Pred)) (q : Pred) → pred_at n preds ≡ Some q → pred_at s preds ≡ cond (nat_eq s n) (Some q) (pred_at s preds)
same-or s n preds q e = grind (arith, nat_tests)

-- its own predicate
own-pred : {A : Type 0} (s n : ℕ) (preds : List (ℕ × Pred)) (o : Option Pred) (x y : Option Pred → A) → pred_at n preds ≡ o
    → cond (nat_eq s n) (x (pred_at s preds)) (y (pred_at s preds)) ≡ cond (nat_eq s n) (x o) (y (pred_at s preds))
own-pred s n preds o x y e = grind (arith, nat_tests)

-- a declaration is seen
seen-declaration : (s : ℕ) (preds : List (ℕ × Pred)) (d : PredLine) → pred_at s (seen preds (declaration d)) ≡ after s (pred_at s preds) (declaration d)
seen-declaration s preds d = at (pred_at d.name.0 preds) refl where
  at : (o : Option Pred) → pred_at d.name.0 preds ≡ o
      → pred_at s (with_declaration o d.name.0 (declared_as d) preds) ≡ cond (nat_eq s d.name.0) (declared_after (pred_at s preds) (declared_as d)) (pred_at s preds)
  at None e = lookup-with s d.name.0 (declared_as d) preds ∙ sym (own-pred s d.name.0 preds None (λ v. declared_after v (declared_as d)) (λ v. v) e)
  at (Some q) e = on q.declared ∙ sym (own-pred s d.name.0 preds (Some q) (λ v. declared_after v (declared_as d)) (λ v. v) e) where
    on : (b : Bool) → pred_at s (cond b preds (with_pred d.name.0 (declared_as d) preds)) ≡ cond (nat_eq s d.name.0) (cond b (Some q) (Some (declared_as d))) (pred_at s preds)
    on true = same-or s d.name.0 preds q e
    on false = lookup-with s d.name.0 (declared_as d) preds

-- a clause is seen
seen-clause : (s : ℕ) (preds : List (ℕ × Pred)) (c : ClauseTree) → pred_at s (seen preds (clause c)) ≡ after s (pred_at s preds) (clause c)
seen-clause s preds c = by (constant_of c.head) where
  at : (n : ℕ) (o : Option Pred) → pred_at n preds ≡ o
      → pred_at s (with_clause o n (undeclared_as c) preds) ≡ cond (nat_eq s n) (clause_after (pred_at s preds) (undeclared_as c)) (pred_at s preds)
  at n None e = lookup-with s n (undeclared_as c) preds ∙ sym (own-pred s n preds None (λ v. clause_after v (undeclared_as c)) (λ v. v) e)
  at n (Some q) e = same-or s n preds q e ∙ sym (own-pred s n preds (Some q) (λ v. clause_after v (undeclared_as c)) (λ v. v) e)

  by : (o : Option ℕ) → pred_at s (option_map_or (λ n. with_clause (pred_at n preds) n (undeclared_as c) preds) o preds)
      ≡ cond (option_map_or (nat_eq s) o false) (clause_after (pred_at s preds) (undeclared_as c)) (pred_at s preds)
  by None = refl
  by (Some n) = at n (pred_at n preds) refl

-- all are seen
fold-seen : (s : ℕ) (preds : List (ℕ × Pred)) (sights : List Sight) → pred_at s (fold seen preds sights) ≡ fold (after s) (pred_at s preds) sights
fold-seen s preds [] = refl
fold-seen s preds (declaration d ∷ sights) = fold-seen s (seen preds (declaration d)) sights ∙ ap (λ v. fold (after s) v sights) (seen-declaration s preds d)
fold-seen s preds (clause c ∷ sights) = fold-seen s (seen preds (clause c)) sights ∙ ap (λ v. fold (after s) v sights) (seen-clause s preds c)

-- a symbol's predicate
pub pred_at-gathered : (lines : List PredLine) (clauses : List ClauseTree) (s : ℕ) → pred_at s (gathered lines clauses) ≡ or_else (declared_first s lines) (headed_first s clauses)
pred_at-gathered lines clauses s = fold-seen s [] (merged lines clauses) ∙ fold-merged s lines None clauses
