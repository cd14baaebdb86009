-- The machine of rules reads exactly the rules, and each of its states has a completion.
use Rattle.std.proofs.Common.{◌≡◌, List, [], ◌∷◌, ◌++◌, refl, ap, subst, ◌∙◌, append_assoc, arith, Option, Some, None}
use Rattle.lp_parser.specs.declared.ast.Place.{Place}
use Rattle.lp_parser.specs.declared.ast.Operator.TheVariants.{Comma}
use Rattle.lp_parser.specs.declared.ast.Word.{Word}
use Rattle.lp_parser.specs.declared.ast.WordPair.{WordPair}
use Rattle.lp_parser.specs.declared.ast.AstTerm.{AstTerm}
use Rattle.lp_parser.specs.declared.ast.RuleHead.{RuleHead}
use Rattle.lp_parser.specs.declared.ast.Rule.{Rule}
use Rattle.lp_parser.specs.declared.lexeme.Closer.TheVariants.{Round, Bar}
use Rattle.lp_parser.specs.declared.lexeme.Mark.TheVariants as mark
use Rattle.lp_parser.specs.declared.lexeme.Lexeme.{Lexeme}
use Rattle.lp_parser.specs.declared.lexeme.Lexeme.TheVariants as lexeme
use Rattle.lp_parser.specs.declared.state.Frame.TheVariants as frame
use Rattle.lp_parser.specs.declared.state.State.{State}
use Rattle.lp_parser.specs.declared.state.State.TheVariants as state
use Rattle.lp_parser.specs.declared.item_state.Side.{Side}
use Rattle.lp_parser.specs.declared.item_state.Side.TheVariants.{Kept, Removed}
use Rattle.lp_parser.specs.declared.item_state.RulePlace.{RulePlace}
use Rattle.lp_parser.specs.declared.item_state.RulePlace.TheVariants as at
use Rattle.lp_parser.specs.declared.item_state.RuleState.{RuleState}
use Rattle.lp_parser.specs.declared.item_state.Moved.TheVariants.{Done}
use Rattle.lp_parser.specs.Grammar.{Shape, Phrase}
use Rattle.lp_parser.specs.Rules.{Head, goal_alone, goal_in_context, HeadList, last_head, head_and, Heads, all_kept, some_removed, all_removed, pair, PairList, last_pair, pair_and, Pairs, no_pairs, pairs, TestList, last_test, test_and, Tests, no_tests, tests, Body, no_body, body}
use Rattle.lp_parser.specs.inside.TermMachine.{settled_at, step}
use Rattle.lp_parser.specs.inside.RuleMachine.{empty_rule, to, with_head, with_pair, with_test, whole, over_test, head_begins, head_ends, in_head, ends_test, in_test, ends_body, in_body, rule_move}
use Rattle.lp_parser.proofs.TermComplete.{Goes, phrase_goes, closing_settled}
use Rattle.lp_parser.proofs.Walks.{Moves, rests, moves, Ends, ends, and_moves, one_move, and_ends, moves_first}
use Rattle.lp_parser.proofs.RuleTests.{goes_within, no_infix, test_over}

-- the state of a rule
abbrev pub here : Rule → RulePlace → RuleState
here r a = record { rule = r; at = a }

-- the ways of the machine
abbrev Goes_on : RuleState → List Lexeme → RuleState → List Lexeme → Type 0
Goes_on z u y v = Moves rule_move z u y v

-- the rule with heads more
abbrev with_heads : Rule → Side → List RuleHead → Rule
with_heads r Kept hs = record r { kept = r.kept ++ hs }
with_heads r Removed hs = record r { removed = r.removed ++ hs }

abbrev with_pairs : Rule → List WordPair → Rule
with_pairs r bs = record r { pairs = r.pairs ++ bs }

abbrev with_tests : Rule → List AstTerm → Rule
with_tests r ts = record r { tests = r.tests ++ ts }

heads_one : (r : Rule) (d : Side) (h : RuleHead) → with_head r d h ≡ with_heads r d (h ∷ [])
heads_one r Kept h = refl
heads_one r Removed h = refl

heads_more : (r : Rule) (d : Side) (h : RuleHead) (hs : List RuleHead) → with_heads (with_head r d h) d hs ≡ with_heads r d (h ∷ hs)
heads_more r Kept h hs = ap (λ y. record r { kept = y }) (append_assoc r.kept (h ∷ []) hs)
heads_more r Removed h hs = ap (λ y. record r { removed = y }) (append_assoc r.removed (h ∷ []) hs)

pairs_more : (r : Rule) (a : WordPair) (bs : List WordPair) → with_pairs (with_pair r a) bs ≡ with_pairs r (a ∷ bs)
pairs_more r a bs = ap (λ y. record r { pairs = y }) (append_assoc r.pairs (a ∷ []) bs)

tests_more : (r : Rule) (t : AstTerm) (ts : List AstTerm) → with_tests (with_test r t) ts ≡ with_tests r (t ∷ ts)
tests_more r t ts = ap (λ y. record r { tests = y }) (append_assoc r.tests (t ∷ []) ts)

-- A `)` outside the term's own brackets isn't its own.
pub no_closer : (z : State) (t : AstTerm) → settled_at z ≡ Some (t, []) → (q : Place) → step z (lexeme.Closer Round q) ≡ None
no_closer z t e q = closing_settled z Round (t, []) e

in_head_goes : (r : Rule) (d : Side) (x : Option Word) {q z : State} {u v : List Lexeme} → Goes q u z v → Goes_on (here r (at.Head d x q)) u (here r (at.Head d x z)) v
in_head_goes r d x g = goes_within (λ q. here r (at.Head d x q)) (λ q z c e. ap (λ o. in_head r d x o c q) e) g

-- A head goes on from its bracket or its `?-` to its end.
goal_goes : {s : Shape} {u v : List Lexeme} {t : AstTerm} {q : Place} → Phrase 1 s u (lexeme.Closer Round q ∷ v) t → (r : Rule) (d : Side) (x : Option Word)
    → Goes_on (here r (at.Head d x (state.Want []))) u (here (with_head r d (record { context = x; goal = t })) (at.Heads d)) v
goal_goes {t} {q} a r d x =
    let on = phrase_goes a [] (omega arith) refl in
    and_moves (in_head_goes r d x on.1)
    (one_move (ap (λ o. in_head r d x o (lexeme.Closer Round q) on.0) (no_closer on.0 t on.2.settled q) ∙ ap (λ o. head_ends r d x (whole o)) on.2.settled))

-- From a state where a `(` begins a head on this side.
head_goes : {u v : List Lexeme} {h : RuleHead} → Head u v h → (z : RuleState) (r : Rule) (d : Side) → ((p : Place) → rule_move z (lexeme.OpenRound p) ≡ head_begins r d)
    → Goes_on z u (here (with_head r d h) (at.Heads d)) v
head_goes (goal_alone p q a) z r d k = moves (k p) (goal_goes a r d None)
head_goes (goal_in_context x p o e q a) z r d k =
    moves (k p) (moves refl (moves refl (goal_goes a r d (Some (record { text = x; place = o })))))

again : (r : Rule) (d : Side) (p : Place) → rule_move (here r (at.Heads d)) (lexeme.OpenRound p) ≡ head_begins r d
again r Kept p = refl
again r Removed p = refl

heads_go : {u v : List Lexeme} {hs : List RuleHead} → HeadList u v hs → (z : RuleState) (r : Rule) (d : Side) → ((p : Place) → rule_move z (lexeme.OpenRound p) ≡ head_begins r d)
    → Goes_on z u (here (with_heads r d hs) (at.Heads d)) v
heads_go {u} {v} (last_head {h} a) z r d k = subst (λ y. Goes_on z u (here y (at.Heads d)) v) (heads_one r d h) (head_goes a z r d k)
heads_go {v} (head_and {v = u1} {h} {hs} a b) z r d k =
    and_moves (head_goes a z r d k)
    (subst (λ y. Goes_on (here (with_head r d h) (at.Heads d)) u1 (here y (at.Heads d)) v) (heads_more r d h hs) (heads_go b (here (with_head r d h) (at.Heads d)) (with_head r d h) d (again (with_head r d h) d)))

-- the rule with these parts
abbrev part : List RuleHead → List RuleHead → List WordPair → List AstTerm → Place → Rule
part hs gs bs ts p = record { kept = hs; removed = gs; pairs = bs; tests = ts; body = None; place = p }

head_parts_go : {u v : List Lexeme} {hs gs : List RuleHead} → Heads u v hs gs → (p : Place) → (d : Side) × Goes_on (here (empty_rule p) at.Start) u (here (part hs gs [] [] p) (at.Heads d)) v
head_parts_go (all_kept a) p = (Kept, heads_go a (here (empty_rule p) at.Start) (empty_rule p) Kept (λ q. refl))
head_parts_go (some_removed {hs} q a b) p = (
  Removed,
  and_moves (heads_go a (here (empty_rule p) at.Start) (empty_rule p) Kept (λ q. refl))
      (moves refl (heads_go b (here (part hs [] [] [] p) at.Divided) (part hs [] [] [] p) Removed (λ q. refl))),
)
head_parts_go (all_removed q b) p = (Removed, moves refl (heads_go b (here (empty_rule p) at.Divided) (empty_rule p) Removed (λ q. refl)))

-- The state is one behind which the body may follow, or the end.
record AtTests (z : RuleState) (r : Rule) : Type 0 where
  begins_body : (p : Place) → rule_move z (lexeme.Mark mark.Equivalent p) ≡ to r (at.Body (state.Want []))
  is_over : (p : Place) → rule_move z (lexeme.Mark mark.Dot p) ≡ Some (Done r)

-- .. or the tests.
record AtPairs (z : RuleState) (r : Rule) : Type 0 where
  begins_tests : (p : Place) → rule_move z (lexeme.Closer Bar p) ≡ to r (at.Test (state.Want (frame.Test ∷ [])))
  no_tests_yet : AtTests z r

at_heads : (r : Rule) (d : Side) → AtPairs (here r (at.Heads d)) r
at_heads r Kept = record { begins_tests = λ p. refl; no_tests_yet = record { begins_body = λ p. refl; is_over = λ p. refl } }
at_heads r Removed = record { begins_tests = λ p. refl; no_tests_yet = record { begins_body = λ p. refl; is_over = λ p. refl } }

at_paired : (r : Rule) → AtPairs (here r at.Paired) r
at_paired r = record { begins_tests = λ p. refl; no_tests_yet = record { begins_body = λ p. refl; is_over = λ p. refl } }

begins_pairs : (r : Rule) (d : Side) (p : Place) → rule_move (here r (at.Heads d)) (lexeme.Mark mark.Greater p) ≡ to r at.PairLeft
begins_pairs r Kept p = refl
begins_pairs r Removed p = refl

pair_list_goes : {u v : List Lexeme} {bs : List WordPair} → PairList u v bs → (r : Rule) → Goes_on (here r at.PairLeft) u (here (with_pairs r bs) at.Paired) v
pair_list_goes (last_pair (pair x y p q o)) r = moves refl (moves refl (one_move refl))
pair_list_goes {v} (pair_and {v = u1} {bs} p (pair x y q o n) b) r =
    let a : WordPair = record { left = record { text = x; place = q }; right = record { text = y; place = n } } in
    moves refl (moves refl (moves refl (moves refl
    (subst (λ y. Goes_on (here (with_pair r a) at.PairLeft) u1 (here y at.Paired) v) (pairs_more r a bs) (pair_list_goes b (with_pair r a))))))

pairs_go : {u v : List Lexeme} {bs : List WordPair} → Pairs u v bs → (hs gs : List RuleHead) (p : Place) (d : Side)
    → (z : RuleState) × Goes_on (here (part hs gs [] [] p) (at.Heads d)) u z v × AtPairs z (part hs gs bs [] p)
pairs_go no_pairs hs gs p d = (here (part hs gs [] [] p) (at.Heads d), rests, at_heads (part hs gs [] [] p) d)
pairs_go (pairs {bs} q a) hs gs p d =
    (here (part hs gs bs [] p) at.Paired, moves (begins_pairs (part hs gs [] [] p) d q) (pair_list_goes a (part hs gs [] [] p)), at_paired (part hs gs bs [] p))

in_test_goes : (r : Rule) {q z : State} {u v : List Lexeme} → Goes q u z v → Goes_on (here r (at.Test q)) u (here r (at.Test z)) v
in_test_goes r g = goes_within (λ q. here r (at.Test q)) (λ q z c e. ap (λ o. in_test r o c q) e) g

-- behind a test
at_tested : (r : Rule) (t : AstTerm) (z : State) → over_test z ≡ Some t → AtTests (here r (at.Test z)) (with_test r t)
at_tested r t z e = record {
  begins_body = λ p. ap (λ o. ends_test r o (lexeme.Mark mark.Equivalent p)) e;
  is_over = λ p. ap (λ o. ends_test r o (lexeme.Mark mark.Dot p)) e;
}

test_list_goes : {u v : List Lexeme} {ts : List AstTerm} → TestList u v ts → (r : Rule)
    → (z : RuleState) × Goes_on (here r (at.Test (state.Want (frame.Test ∷ [])))) u z v × AtTests z (with_tests r ts)
test_list_goes (last_test {t} a) r =
    let on = test_over a in
    (here r (at.Test on.0), in_test_goes r on.1, at_tested r t on.0 on.2)
test_list_goes (test_and {t} {ts} p a b) r =
    let on = test_over a in
    let by = test_list_goes b (with_test r t) in (
      by.0,
      and_moves (in_test_goes r on.1) (moves (ap (λ o. in_test r o (lexeme.Infix Comma p) on.0) (no_infix on.0 [] Comma p on.3) ∙ ap (λ o. ends_test r o (lexeme.Infix Comma p)) on.2) by.1),
      subst (AtTests by.0) (tests_more r t ts) by.2,
    )

tests_go : {u v : List Lexeme} {ts : List AstTerm} → Tests u v ts → (z : RuleState) (hs gs : List RuleHead) (bs : List WordPair) (p : Place) → AtPairs z (part hs gs bs [] p)
    → (y : RuleState) × Goes_on z u y v × AtTests y (part hs gs bs ts p)
tests_go no_tests z hs gs bs p k = (z, rests, k.no_tests_yet)
tests_go (tests q a) z hs gs bs p k = let on = test_list_goes a (part hs gs bs [] p) in (on.0, moves (k.begins_tests q) on.1, on.2)

in_body_goes : (r : Rule) {q z : State} {u v : List Lexeme} → Goes q u z v → Goes_on (here r (at.Body q)) u (here r (at.Body z)) v
in_body_goes r g = goes_within (λ q. here r (at.Body q)) (λ q z c e. ap (λ o. in_body r o c q) e) g

-- the rule with its parts and a body
abbrev ended : List RuleHead → List RuleHead → List WordPair → List AstTerm → Option AstTerm → Place → Rule
ended hs gs bs ts b p = record { kept = hs; removed = gs; pairs = bs; tests = ts; body = b; place = p }

body_ends : {u v : List Lexeme} {b : Option AstTerm} {q : Place} → Body u (lexeme.Mark mark.Dot q ∷ v) b → (z : RuleState) (hs gs : List RuleHead) (bs : List WordPair) (ts : List AstTerm) (p : Place)
    → AtTests z (part hs gs bs ts p) → Ends rule_move z u (ended hs gs bs ts b p) v
body_ends {q} no_body z hs gs bs ts p k = ends rests (k.is_over q)
body_ends {q} (body o a) z hs gs bs ts p k =
    let on = phrase_goes a [] (omega arith) refl in
    moves_first (k.begins_body o) (ends (in_body_goes (part hs gs bs ts p) on.1) (ap (λ y. ends_body (part hs gs bs ts p) (whole y) (lexeme.Mark mark.Dot q)) on.2.settled))

-- A rule goes from its word to its end.
pub rule_ends : {u v w x y : List Lexeme} {hs gs : List RuleHead} {bs : List WordPair} {ts : List AstTerm} {b : Option AstTerm} (p q : Place)
    → Heads u v hs gs → Pairs v w bs → Tests w x ts → Body x (lexeme.Mark mark.Dot q ∷ y) b
    → Ends rule_move (here (empty_rule p) at.Start) u (record { kept = hs; removed = gs; pairs = bs; tests = ts; body = b; place = p }) y
rule_ends {hs} {gs} {bs} {ts} p q h i j k =
    let on = head_parts_go h p in
    let by = pairs_go i hs gs p on.0 in
    let at_last = tests_go j by.0 hs gs bs p by.2 in
    and_ends on.1 (and_ends by.1 (and_ends at_last.1 (body_ends k at_last.0 hs gs bs ts p at_last.2)))
