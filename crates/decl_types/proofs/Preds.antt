-- The type of a predicate, from its last argument on.
use Rattle.std.proofs.Common.{◌≡◌, ◌∙◌, ℕ, ◌+◌, ◌<◌, List, length, get_or, drop, ap, sym}
use Rattle.std.proofs.lemmas.List.{drop_more}
use Rattle.decl_trees.specs.declared.trees.TypeTree.{TypeTree}
use Rattle.type_terms.specs.declared.scheme.Scheme.{Scheme}
use Rattle.decl_types.specs.Reserved.{to}
use Rattle.decl_types.specs.DeclaredTypes.{scheme_of, pred_scheme}

-- with one more argument before them
pub pred-more : (args : List TypeTree) (i : ℕ) (d : TypeTree) → i < length args → pred_scheme (drop i args) ≡ to (scheme_of (get_or args i d)) (pred_scheme (drop (i + 1) args))
pred-more args i d h = ap pred_scheme (drop_more args i d h)

-- so the loop, which goes from the last argument to the first, goes on
pub pred-step : (args : List TypeTree) (i j : ℕ) (x d : TypeTree) (now argument next : Scheme) → j + 1 ≡ i → j < length args → x ≡ get_or args j d
    → now ≡ pred_scheme (drop i args) → argument ≡ scheme_of x → next ≡ to argument now → next ≡ pred_scheme (drop j args)
pred-step args i j x d now argument next step h is known read made =
    made ∙ ap (λ s. to s now) (read ∙ ap scheme_of is) ∙ ap (to (scheme_of (get_or args j d))) (known ∙ ap (λ k. pred_scheme (drop k args)) (sym step))
    ∙ sym (pred-more args j d h)
