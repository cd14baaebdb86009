-- Entries of clauses and rules, as they are made.
use Rattle.std.proofs.Common.{◌≡◌, ◌∙◌, ℕ, ◌+◌, ◌<◌, ◌≤◌, List, [], ◌∷◌, ◌++◌, length, map, take, get_or, ap, sym, subst, refl}
use Rattle.std.proofs.lemmas.List.{map-append, take_more, take_all, append-nil, append_assoc}
use Rattle.std.proofs.lemmas.List.Elements.{All-nil, All-push}
use Rattle.lp_resolve.specs.declared.program.ClauseTree.{ClauseTree}
use Rattle.lp_resolve.specs.declared.program.RuleTree.{RuleTree}
use Rattle.type_check.specs.declared.places.Entry.{Entry}
use Rattle.type_check.specs.Typings.{Item, of_clause, of_rule, place_of}
use Rattle.type_check.specs.inside.Order.{item_of, IsPlaced, AreEntries}

-- no entry
pub entries-none : AreEntries [] []
entries-none = record { items_are = refl; placed = All-nil IsPlaced }

-- one more entry
entries-more : (items : List Item) (entries later : List Entry) (x : Item) (e : Entry) → AreEntries items entries → item_of e ≡ x → e.place ≡ place_of x → later ≡ entries ++ e ∷ [] → AreEntries (items ++ x ∷ []) later
entries-more items entries later x e a is at put = subst (AreEntries (items ++ x ∷ [])) (sym put) (record {
  items_are = map-append item_of entries (e ∷ []) ∙ ap (λ xs. xs ++ item_of e ∷ []) a.items_are ∙ ap (λ y. items ++ y ∷ []) is;
  placed = All-push IsPlaced entries e a.placed (at ∙ ap place_of (sym is));
})

more : {A : Type 0} (f : A → Item) (before : List Item) (xs : List A) (i : ℕ) (x : A) → i < length xs → x ≡ get_or xs i x → (before ++ map f (take i xs)) ++ f x ∷ [] ≡ before ++ map f (take (i + 1) xs)
more f before xs i x h e =
    append_assoc before (map f (take i xs)) (f x ∷ [])
    ∙ ap (λ ys. before ++ ys) (sym (map-append f (take i xs) (x ∷ [])) ∙ ap (map f) (sym (take_more xs i x h ∙ ap (λ y. take i xs ++ y ∷ []) (sym e))))

-- one more clause
pub clauses-more : (clauses : List ClauseTree) (entries later : List Entry) (i : ℕ) (x : ClauseTree) (e : Entry) → i < length clauses → x ≡ get_or clauses i x → item_of e ≡ of_clause x → e.place ≡ x.places.first
    → AreEntries (map of_clause (take i clauses)) entries → later ≡ entries ++ e ∷ [] → AreEntries (map of_clause (take (i + 1) clauses)) later
clauses-more clauses entries later i x e h k is at a put =
    subst (λ items. AreEntries items later) (more of_clause [] clauses i x h k) (entries-more (map of_clause (take i clauses)) entries later (of_clause x) e a is at put)

-- all clauses, and no rule
pub rules-none : (clauses : List ClauseTree) (rules : List RuleTree) (entries : List Entry) (n : ℕ) → length clauses ≤ n → AreEntries (map of_clause (take n clauses)) entries → AreEntries (map of_clause clauses ++ map of_rule (take 0 rules)) entries
rules-none clauses rules entries n h a = subst (λ items. AreEntries items entries) (ap (map of_clause) (take_all n clauses h) ∙ sym (append-nil (map of_clause clauses))) a

-- one more rule
pub rules-more : (clauses : List ClauseTree) (rules : List RuleTree) (entries later : List Entry) (i : ℕ) (x : RuleTree) (e : Entry) → i < length rules → x ≡ get_or rules i x → item_of e ≡ of_rule x → e.place ≡ x.places.rule
    → AreEntries (map of_clause clauses ++ map of_rule (take i rules)) entries → later ≡ entries ++ e ∷ [] → AreEntries (map of_clause clauses ++ map of_rule (take (i + 1) rules)) later
rules-more clauses rules entries later i x e h k is at a put =
    subst (λ items. AreEntries items later) (more of_rule (map of_clause clauses) rules i x h k)
    (entries-more (map of_clause clauses ++ map of_rule (take i rules)) entries later (of_rule x) e a is at put)

-- all rules
pub rules-all : (clauses : List ClauseTree) (rules : List RuleTree) (entries : List Entry) (n : ℕ) → length rules ≤ n → AreEntries (map of_clause clauses ++ map of_rule (take n rules)) entries → AreEntries (map of_clause clauses ++ map of_rule rules) entries
rules-all clauses rules entries n h a = subst (λ rs. AreEntries (map of_clause clauses ++ map of_rule rs) entries) (take_all n rules h) a
