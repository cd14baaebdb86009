-- What the machine of rules reads is a rule.
use Rattle.std.proofs.Common.{◌≡◌, ℕ, List, [], ◌∷◌, ◌++◌, refl, sym, ap, subst, append_assoc, Option, Some, None}
use Rattle.std.proofs.lemmas.Option.{same_Some}
use Rattle.lp_parser.specs.declared.ast.Place.{Place}
use Rattle.lp_parser.specs.declared.ast.WordKind.TheVariants.{Name, Var, Hole}
use Rattle.lp_parser.specs.declared.ast.Operator.TheVariants.{Comma}
use Rattle.lp_parser.specs.declared.ast.Word.{Word}
use Rattle.lp_parser.specs.declared.ast.WordPair.{WordPair}
use Rattle.lp_parser.specs.declared.ast.AstTerm.{AstTerm}
use Rattle.lp_parser.specs.declared.ast.RuleHead.{RuleHead}
use Rattle.lp_parser.specs.declared.ast.Rule.{Rule}
use Rattle.lp_parser.specs.declared.lexeme.Closer.TheVariants.{Round, Bar}
use Rattle.lp_parser.specs.declared.lexeme.Mark.TheVariants as mark
use Rattle.lp_parser.specs.declared.lexeme.Lexeme.{Lexeme}
use Rattle.lp_parser.specs.declared.lexeme.Lexeme.TheVariants as lexeme
use Rattle.lp_parser.specs.declared.state.Frame.{Frame}
use Rattle.lp_parser.specs.declared.state.Frame.TheVariants as frame
use Rattle.lp_parser.specs.declared.state.State.{State}
use Rattle.lp_parser.specs.declared.state.State.TheVariants as state
use Rattle.lp_parser.specs.declared.item_state.Side.{Side}
use Rattle.lp_parser.specs.declared.item_state.Side.TheVariants.{Kept, Removed}
use Rattle.lp_parser.specs.declared.item_state.RulePlace.TheVariants as at
use Rattle.lp_parser.specs.declared.item_state.RuleState.{RuleState}
use Rattle.lp_parser.specs.declared.item_state.Moved.{Moved}
use Rattle.lp_parser.specs.Grammar.{Shape, Closed, Phrase}
use Rattle.lp_parser.specs.Rules.{Head, goal_alone, goal_in_context, HeadList, last_head, head_and, Heads, all_kept, some_removed, all_removed, Pair, pair, PairList, last_pair, pair_and, Pairs, no_pairs, pairs, TestList, last_test, test_and, Tests, no_tests, tests, Body, no_body, body, RuleOf, rule}
use Rattle.lp_parser.specs.inside.TermMachine.{settled_at, step}
use Rattle.lp_parser.specs.inside.RuleMachine.{empty_rule, with_head, whole, over_test, alone, behind_tests, behind_pairs, behind_heads, rule_start, divided, behind_head, head_ends, context_ends, ends_head, in_head, pair_left, pair_tilde, pair_right, paired, tested, ends_test, in_test, ends_body, in_body, rule_move}
use Rattle.lp_parser.proofs.TermSound.{Holds, at_want, at_quantifier, at_have, at_words, start, start_test, nothing, arguments, quantified_by, a_word, grouped, plain, step_reads, settled_reads, term_bottom}
use Rattle.lp_parser.proofs.Walks.{AtMoved, goes_to, is_done}
use Rattle.lp_parser.proofs.RuleTests.{over_reads}
use Rattle.lp_parser.proofs.Rules.{here}

-- the rule with these parts
abbrev pub part : List RuleHead → List RuleHead → List WordPair → List AstTerm → Place → Rule
part hs gs bs ts p = record { kept = hs; removed = gs; pairs = bs; tests = ts; body = None; place = p }

-- the word `rule`
pub data RuleBegan : Place → List Lexeme → List Lexeme → Type 0 where
  rule_began : {u : List Lexeme} (p : Place) → RuleBegan p (lexeme.Mark mark.RuleWord p ∷ u) u

-- any number of heads
pub data FrontHeads : List Lexeme → List Lexeme → List RuleHead → Type 0 where
  no_front_head : {u : List Lexeme} → FrontHeads u u []
  and_front_head : {u v w : List Lexeme} {hs : List RuleHead} {h : RuleHead} → FrontHeads u v hs → Head v w h → FrontHeads u w (hs ++ h ∷ [])

-- pairs with a comma behind each
pub data FrontPairs : List Lexeme → List Lexeme → List WordPair → Type 0 where
  no_front_pair : {u : List Lexeme} → FrontPairs u u []
  and_front_pair : {u v w : List Lexeme} {bs : List WordPair} {a : WordPair} (q : Place) → FrontPairs u v bs → Pair v (lexeme.Infix Comma q ∷ w) a → FrontPairs u w (bs ++ a ∷ [])

-- tests with a comma behind each
pub data FrontTests : List Lexeme → List Lexeme → List AstTerm → Type 0 where
  no_front_test : {u : List Lexeme} → FrontTests u u []
  and_front_test : {u v w : List Lexeme} {ts : List AstTerm} {t : AstTerm} (q : Place) → FrontTests u v ts → Phrase 9 Closed v (lexeme.Infix Comma q ∷ w) t → FrontTests u w (ts ++ t ∷ [])

heads_with : {u v w : List Lexeme} {hs gs : List RuleHead} → FrontHeads u v hs → HeadList v w gs → HeadList u w (hs ++ gs)
heads_with no_front_head b = b
heads_with {u} {w} {gs} (and_front_head {hs} {h} f a) b = subst (HeadList u w) (sym (append_assoc hs (h ∷ []) gs)) (heads_with f (head_and a b))

pairs_with : {u v w : List Lexeme} {hs gs : List WordPair} → FrontPairs u v hs → PairList v w gs → PairList u w (hs ++ gs)
pairs_with no_front_pair b = b
pairs_with {u} {w} {gs} (and_front_pair {bs} {a = h} q f a) b = subst (PairList u w) (sym (append_assoc bs (h ∷ []) gs)) (pairs_with f (pair_and q a b))

tests_with : {u v w : List Lexeme} {hs gs : List AstTerm} → FrontTests u v hs → TestList v w gs → TestList u w (hs ++ gs)
tests_with no_front_test b = b
tests_with {u} {w} {gs} (and_front_test {ts} {t} q f a) b = subst (TestList u w) (sym (append_assoc ts (t ∷ []) gs)) (tests_with f (test_and q a b))

removed_heads : {u v w : List Lexeme} {hs gs : List RuleHead} (q : Place) → FrontHeads u (lexeme.Lambda q ∷ v) hs → HeadList v w gs → Heads u w hs gs
removed_heads q no_front_head b = all_removed q b
removed_heads q (and_front_head f a) b = some_removed q (heads_with f (last_head a)) b

-- up to v the rule r has heads, and the next one stands on this side
pub data OnSide (all : List Lexeme) : Rule → Side → List Lexeme → Type 0 where
  kept_side : {u v : List Lexeme} {hs : List RuleHead} {p : Place} → RuleBegan p all u → FrontHeads u v hs → OnSide all (part hs [] [] [] p) Kept v
  removed_side : {u v w : List Lexeme} {hs gs : List RuleHead} {p : Place} (q : Place)
      → RuleBegan p all u → FrontHeads u (lexeme.Lambda q ∷ v) hs → FrontHeads v w gs → OnSide all (part hs gs [] [] p) Removed w

-- the bracket of a head, with the variable of its context where it has one
pub data HeadBegan : Option Word → List Lexeme → List Lexeme → Type 0 where
  no_context : {v : List Lexeme} (p : Place) → HeadBegan None (lexeme.OpenRound p ∷ v) v
  in_context : {v : List Lexeme} (x : List ℕ) (p d e : Place)
      → HeadBegan (Some (record { text = x; place = d })) (lexeme.OpenRound p ∷ lexeme.Word Var x d ∷ lexeme.Mark mark.Turnstile e ∷ v) v

-- the heads of the rule are read, its pairs too, its tests too
pub data HeadsRead (all : List Lexeme) : List RuleHead → List RuleHead → Place → List Lexeme → Type 0 where
  heads_read : {u v : List Lexeme} {hs gs : List RuleHead} {p : Place} → RuleBegan p all u → Heads u v hs gs → HeadsRead all hs gs p v

pub data PairsRead (all : List Lexeme) : List RuleHead → List RuleHead → List WordPair → Place → List Lexeme → Type 0 where
  pairs_read : {u v : List Lexeme} {hs gs : List RuleHead} {bs : List WordPair} {p : Place} → HeadsRead all hs gs p u → Pairs u v bs → PairsRead all hs gs bs p v

pub data TestsRead (all : List Lexeme) : List RuleHead → List RuleHead → List WordPair → List AstTerm → Place → List Lexeme → Type 0 where
  tests_read : {u v : List Lexeme} {hs gs : List RuleHead} {bs : List WordPair} {ts : List AstTerm} {p : Place} → PairsRead all hs gs bs p u → Tests u v ts → TestsRead all hs gs bs ts p v

-- the lexemes all are read in this state of a rule up to these lexemes
pub data RuleHolds (all : List Lexeme) : RuleState → List Lexeme → Type 0 where
  at_start : {u : List Lexeme} {p : Place} → RuleBegan p all u → RuleHolds all (here (empty_rule p) at.Start) u
  at_divided : {u v : List Lexeme} {hs : List RuleHead} {p : Place} (q : Place)
      → RuleBegan p all u → FrontHeads u (lexeme.Lambda q ∷ v) hs → RuleHolds all (here (part hs [] [] [] p) at.Divided) v
  at_head : {u v w : List Lexeme} {r : Rule} {d : Side} {x : Option Word} {q : State}
      → OnSide all r d u → HeadBegan x u v → Holds v [] q w → RuleHolds all (here r (at.Head d x q)) w
  at_heads : {u v : List Lexeme} {r : Rule} {d : Side} {h : RuleHead} → OnSide all r d u → Head u v h → RuleHolds all (here (with_head r d h) (at.Heads d)) v
  at_pair_left : {u v : List Lexeme} {hs gs : List RuleHead} {bs : List WordPair} {p : Place} (q : Place)
      → HeadsRead all hs gs p (lexeme.Mark mark.Greater q ∷ u) → FrontPairs u v bs → RuleHolds all (here (part hs gs bs [] p) at.PairLeft) v
  at_tilde : {u v : List Lexeme} {hs gs : List RuleHead} {bs : List WordPair} {p : Place} (x : List ℕ) (q o : Place)
      → HeadsRead all hs gs p (lexeme.Mark mark.Greater q ∷ u) → FrontPairs u (lexeme.Word Var x o ∷ v) bs
      → RuleHolds all (here (part hs gs bs [] p) (at.Tilde (record { text = x; place = o }))) v
  at_pair_right : {u v : List Lexeme} {hs gs : List RuleHead} {bs : List WordPair} {p : Place} (x : List ℕ) (q o n : Place)
      → HeadsRead all hs gs p (lexeme.Mark mark.Greater q ∷ u) → FrontPairs u (lexeme.Word Var x o ∷ lexeme.Mark mark.Tilde n ∷ v) bs
      → RuleHolds all (here (part hs gs bs [] p) (at.PairRight (record { text = x; place = o }))) v
  at_paired : {u v w : List Lexeme} {hs gs : List RuleHead} {bs : List WordPair} {a : WordPair} {p : Place} (q : Place)
      → HeadsRead all hs gs p (lexeme.Mark mark.Greater q ∷ u) → FrontPairs u v bs → Pair v w a → RuleHolds all (here (part hs gs (bs ++ a ∷ []) [] p) at.Paired) w
  at_test : {u v w : List Lexeme} {hs gs : List RuleHead} {bs : List WordPair} {ts : List AstTerm} {p : Place} {z : State} (q : Place)
      → PairsRead all hs gs bs p (lexeme.Closer Bar q ∷ u) → FrontTests u v ts → Holds v (frame.Test ∷ []) z w → RuleHolds all (here (part hs gs bs ts p) (at.Test z)) w
  at_body : {u v : List Lexeme} {hs gs : List RuleHead} {bs : List WordPair} {ts : List AstTerm} {p : Place} {z : State} (q : Place)
      → TestsRead all hs gs bs ts p (lexeme.Mark mark.Equivalent q ∷ u) → Holds u [] z v → RuleHolds all (here (part hs gs bs ts p) (at.Body z)) v

-- .. where a lexeme leads
abbrev pub RuleAt : List Lexeme → Moved RuleState Rule → List Lexeme → Type 0
RuleAt all m u = AtMoved (RuleHolds all) (λ r v. RuleOf all v r) m u

on : {all u : List Lexeme} {m n : Moved RuleState Rule} → Some m ≡ Some n → RuleAt all m u → RuleAt all n u
on {all} {u} {m} {n} e a = subst (λ z. RuleAt all z u) (same_Some m n e) a

-- the rule that ends with this body, or with none
rule_of : {all u v : List Lexeme} {hs gs : List RuleHead} {bs : List WordPair} {ts : List AstTerm} {b : Option AstTerm} {p : Place} (q : Place)
    → TestsRead all hs gs bs ts p u → Body u (lexeme.Mark mark.Dot q ∷ v) b → RuleOf all v (record { kept = hs; removed = gs; pairs = bs; tests = ts; body = b; place = p })
rule_of q (tests_read (pairs_read (heads_read (rule_began p) h) i) j) k = rule p q h i j k

whole_settled : (o : Option (AstTerm × List Frame)) (t : AstTerm) → whole o ≡ Some t → o ≡ Some (t, [])
whole_settled None t e = absurd cc
whole_settled (Some (r, [])) t e = ap (λ z. Some (z, [])) (same_Some _ _ e)
whole_settled (Some (r, f ∷ s)) t e = absurd cc

-- What is whole is a phrase.
pub whole_reads : {all v : List Lexeme} {q : State} → Holds all [] q v → (t : AstTerm) → whole (settled_at q) ≡ Some t → (s : Shape) × Phrase 1 s all v t
whole_reads {q} h t e = settled_reads h t (whole_settled (settled_at q) t e)

behind_tests_reads : {all v : List Lexeme} {hs gs : List RuleHead} {bs : List WordPair} {ts : List AstTerm} {p : Place} (c : Lexeme) → TestsRead all hs gs bs ts p (c ∷ v)
    → (m : Moved RuleState Rule) → behind_tests (part hs gs bs ts p) c ≡ Some m → RuleAt all m v
behind_tests_reads (lexeme.Mark mark.Equivalent q) r m e = on e (goes_to (at_body q r (at_want start)))
behind_tests_reads (lexeme.Mark mark.Dot q) r m e = on e (is_done (rule_of q r no_body))
behind_tests_reads c r m e = absurd cc

behind_pairs_reads : {all v : List Lexeme} {hs gs : List RuleHead} {bs : List WordPair} {p : Place} (c : Lexeme) → PairsRead all hs gs bs p (c ∷ v)
    → (m : Moved RuleState Rule) → behind_pairs (part hs gs bs [] p) c ≡ Some m → RuleAt all m v
behind_pairs_reads (lexeme.Closer Bar q) r m e = on e (goes_to (at_test q r no_front_test (at_want start_test)))
behind_pairs_reads c r m e = behind_tests_reads c (tests_read r no_tests) m e

behind_heads_reads : {all v : List Lexeme} {hs gs : List RuleHead} {p : Place} (c : Lexeme) → HeadsRead all hs gs p (c ∷ v)
    → (m : Moved RuleState Rule) → behind_heads (part hs gs [] [] p) c ≡ Some m → RuleAt all m v
behind_heads_reads (lexeme.Mark mark.Greater q) r m e = on e (goes_to (at_pair_left q r no_front_pair))
behind_heads_reads c r m e = behind_pairs_reads c (pairs_read r no_pairs) m e

start_reads : {all v : List Lexeme} {p : Place} (c : Lexeme) → RuleBegan p all (c ∷ v) → (m : Moved RuleState Rule) → rule_start (empty_rule p) c ≡ Some m → RuleAt all m v
start_reads (lexeme.OpenRound q) b m e = on e (goes_to (at_head (kept_side b no_front_head) (no_context q) (at_want start)))
start_reads (lexeme.Lambda q) b m e = on e (goes_to (at_divided q b no_front_head))
start_reads c b m e = absurd cc

divided_reads : {all u v : List Lexeme} {hs : List RuleHead} {p : Place} (q : Place) (c : Lexeme) → RuleBegan p all u → FrontHeads u (lexeme.Lambda q ∷ c ∷ v) hs
    → (m : Moved RuleState Rule) → divided (part hs [] [] [] p) c ≡ Some m → RuleAt all m v
divided_reads q (lexeme.OpenRound o) b f m e = on e (goes_to (at_head (removed_side q b f no_front_head) (no_context o) (at_want start)))
divided_reads q c b f m e = absurd cc

behind_head_reads : {all u v : List Lexeme} {r : Rule} {d : Side} {h : RuleHead} (c : Lexeme) → OnSide all r d u → Head u (c ∷ v) h
    → (m : Moved RuleState Rule) → behind_head (with_head r d h) d c ≡ Some m → RuleAt all m v
behind_head_reads (lexeme.OpenRound q) (kept_side b f) i m e = on e (goes_to (at_head (kept_side b (and_front_head f i)) (no_context q) (at_want start)))
behind_head_reads (lexeme.Lambda q) (kept_side b f) i m e = on e (goes_to (at_divided q b (and_front_head f i)))
behind_head_reads c (kept_side b f) i m e = behind_heads_reads c (heads_read b (all_kept (heads_with f (last_head i)))) m e
behind_head_reads (lexeme.OpenRound o) (removed_side q b f g) i m e = on e (goes_to (at_head (removed_side q b f (and_front_head g i)) (no_context o) (at_want start)))
behind_head_reads c (removed_side q b f g) i m e = behind_heads_reads c (heads_read b (removed_heads q f (heads_with g (last_head i)))) m e

head_is : {u v w : List Lexeme} {x : Option Word} {s : Shape} {t : AstTerm} (q : Place) → HeadBegan x u v → Phrase 1 s v (lexeme.Closer Round q ∷ w) t → Head u w (record { context = x; goal = t })
head_is q (no_context p) a = goal_alone p q a
head_is q (in_context x p d e) a = goal_in_context x p d e q a

head_ends_reads : {all u v w : List Lexeme} {r : Rule} {d : Side} {x : Option Word} {q : State} (p : Place) → OnSide all r d u → HeadBegan x u w → Holds w [] q (lexeme.Closer Round p ∷ v)
    → (t : Option AstTerm) → whole (settled_at q) ≡ t → (m : Moved RuleState Rule) → head_ends r d x t ≡ Some m → RuleAt all m v
head_ends_reads p s b h None f m e = absurd cc
head_ends_reads p s b h (Some t) f m e = on e (goes_to (at_heads s (head_is p b (whole_reads h t f).1)))

-- the variable alone
data IsAlone (all : List Lexeme) (v : List Lexeme) : Word → Type 0 where
  is_alone : (x : List ℕ) (p : Place) → all ≡ lexeme.Word Var x p ∷ v → IsAlone all v (record { text = x; place = p })

alone_reads : {all v : List Lexeme} {q : State} → Holds all [] q v → (w : Word) → alone q ≡ Some w → IsAlone all v w
alone_reads (at_want r) w e = absurd cc
alone_reads (at_quantifier r) w e = absurd cc
alone_reads {all} {v} (at_have {s = []} r nothing (a_word {k = Var} {x} {p})) w e = subst (IsAlone all v) (same_Some _ _ e) (is_alone x p (sym (term_bottom r refl refl)))
alone_reads (at_have {s = y ∷ s} r nothing (a_word {k = Var})) w e = absurd cc
alone_reads (at_have r nothing (a_word {k = Name})) w e = absurd cc
alone_reads (at_have r nothing (a_word {k = Hole})) w e = absurd cc
alone_reads (at_have r nothing (grouped g)) w e = absurd cc
alone_reads (at_have r nothing (plain g)) w e = absurd cc
alone_reads (at_have r (arguments h ps) l) w e = absurd cc
alone_reads (at_have r quantified_by l) w e = absurd cc
alone_reads (at_words r m ws) w e = absurd cc

context_reads : {all u v w : List Lexeme} {r : Rule} {d : Side} (p : Place) → OnSide all r d u → HeadBegan None u w → (x : Word) → IsAlone w (lexeme.Mark mark.Turnstile p ∷ v) x
    → RuleHolds all (here r (at.Head d (Some x) (state.Want []))) v
context_reads {all} {r} {d} p s (no_context o) x (is_alone y q same) =
    at_head (subst (λ z. OnSide all r d (lexeme.OpenRound o ∷ z)) same s) (in_context y o q p) (at_want start)

context_ends_reads : {all u v w : List Lexeme} {r : Rule} {d : Side} {x : Option Word} {q : State} (p : Place) → OnSide all r d u → HeadBegan x u w → Holds w [] q (lexeme.Mark mark.Turnstile p ∷ v)
    → (y : Option Word) → alone q ≡ y → (m : Moved RuleState Rule) → context_ends r d x y ≡ Some m → RuleAt all m v
context_ends_reads {x = Some z} p s b h y f m e = absurd cc
context_ends_reads {x = None} p s b h None f m e = absurd cc
context_ends_reads {x = None} p s b h (Some y) f m e = on e (goes_to (context_reads p s b y (alone_reads h y f)))

ends_head_reads : {all u v w : List Lexeme} {r : Rule} {d : Side} {x : Option Word} {q : State} (c : Lexeme) → OnSide all r d u → HeadBegan x u w → Holds w [] q (c ∷ v)
    → (m : Moved RuleState Rule) → ends_head r d x q c ≡ Some m → RuleAt all m v
ends_head_reads {q} (lexeme.Closer Round p) s b h m e = head_ends_reads p s b h (whole (settled_at q)) refl m e
ends_head_reads {q} (lexeme.Mark mark.Turnstile p) s b h m e = context_ends_reads p s b h (alone q) refl m e
ends_head_reads c s b h m e = absurd cc

in_head_reads : {all u v w : List Lexeme} {r : Rule} {d : Side} {x : Option Word} {q : State} (c : Lexeme) → OnSide all r d u → HeadBegan x u w → Holds w [] q (c ∷ v)
    → (o : Option State) → step q c ≡ o → (m : Moved RuleState Rule) → in_head r d x o c q ≡ Some m → RuleAt all m v
in_head_reads c s b h (Some z) f m e = on e (goes_to (at_head s b (step_reads c h z f)))
in_head_reads c s b h None f m e = ends_head_reads c s b h m e

module _ {all : List Lexeme} {hs gs : List RuleHead} {p : Place} (q : Place) where
  pair_left_reads : {u v : List Lexeme} {bs : List WordPair} (c : Lexeme) → HeadsRead all hs gs p (lexeme.Mark mark.Greater q ∷ u) → FrontPairs u (c ∷ v) bs
      → (m : Moved RuleState Rule) → pair_left (part hs gs bs [] p) c ≡ Some m → RuleAt all m v
  pair_left_reads (lexeme.Word Var x o) r f m e = on e (goes_to (at_tilde x q o r f))
  pair_left_reads c r f m e = absurd cc

  tilde_reads : {u v : List Lexeme} {bs : List WordPair} (x : List ℕ) (o : Place) (c : Lexeme) → HeadsRead all hs gs p (lexeme.Mark mark.Greater q ∷ u) → FrontPairs u (lexeme.Word Var x o ∷ c ∷ v) bs
      → (m : Moved RuleState Rule) → pair_tilde (part hs gs bs [] p) (record { text = x; place = o }) c ≡ Some m → RuleAt all m v
  tilde_reads x o (lexeme.Mark mark.Tilde n) r f m e = on e (goes_to (at_pair_right x q o n r f))
  tilde_reads x o c r f m e = absurd cc

  pair_right_reads : {u v : List Lexeme} {bs : List WordPair} (x : List ℕ) (o n : Place) (c : Lexeme) → HeadsRead all hs gs p (lexeme.Mark mark.Greater q ∷ u)
      → FrontPairs u (lexeme.Word Var x o ∷ lexeme.Mark mark.Tilde n ∷ c ∷ v) bs → (m : Moved RuleState Rule) → pair_right (part hs gs bs [] p) (record { text = x; place = o }) c ≡ Some m → RuleAt all m v
  pair_right_reads x o n (lexeme.Word Var y d) r f m e = on e (goes_to (at_paired q r f (pair x y o n d)))
  pair_right_reads x o n c r f m e = absurd cc

  paired_reads : {u v w : List Lexeme} {bs : List WordPair} {a : WordPair} (c : Lexeme) → HeadsRead all hs gs p (lexeme.Mark mark.Greater q ∷ u) → FrontPairs u v bs → Pair v (c ∷ w) a
      → (m : Moved RuleState Rule) → paired (part hs gs (bs ++ a ∷ []) [] p) c ≡ Some m → RuleAt all m w
  paired_reads (lexeme.Infix Comma o) r f i m e = on e (goes_to (at_pair_left q r (and_front_pair o f i)))
  paired_reads c r f i m e = behind_pairs_reads c (pairs_read r (pairs q (pairs_with f (last_pair i)))) m e

  tested_reads : {u v w : List Lexeme} {bs : List WordPair} {ts : List AstTerm} {t : AstTerm} (c : Lexeme) → PairsRead all hs gs bs p (lexeme.Closer Bar q ∷ u) → FrontTests u v ts → Phrase 9 Closed v (c ∷ w) t
      → (m : Moved RuleState Rule) → tested (part hs gs bs (ts ++ t ∷ []) p) c ≡ Some m → RuleAt all m w
  tested_reads (lexeme.Infix Comma o) r f a m e = on e (goes_to (at_test q r (and_front_test o f a) (at_want start_test)))
  tested_reads c r f a m e = behind_tests_reads c (tests_read r (tests q (tests_with f (last_test a)))) m e

  ends_test_reads : {u v w : List Lexeme} {bs : List WordPair} {ts : List AstTerm} {z : State} (c : Lexeme) → PairsRead all hs gs bs p (lexeme.Closer Bar q ∷ u) → FrontTests u v ts → Holds v (frame.Test ∷ []) z (c ∷ w)
      → (t : Option AstTerm) → over_test z ≡ t → (m : Moved RuleState Rule) → ends_test (part hs gs bs ts p) t c ≡ Some m → RuleAt all m w
  ends_test_reads c r f h None i m e = absurd cc
  ends_test_reads c r f h (Some t) i m e = tested_reads c r f (over_reads h t i) m e

  in_test_reads : {u v w : List Lexeme} {bs : List WordPair} {ts : List AstTerm} {z : State} (c : Lexeme) → PairsRead all hs gs bs p (lexeme.Closer Bar q ∷ u) → FrontTests u v ts → Holds v (frame.Test ∷ []) z (c ∷ w)
      → (o : Option State) → step z c ≡ o → (m : Moved RuleState Rule) → in_test (part hs gs bs ts p) o c z ≡ Some m → RuleAt all m w
  in_test_reads c r f h (Some y) i m e = on e (goes_to (at_test q r f (step_reads c h y i)))
  in_test_reads {z} c r f h None i m e = ends_test_reads c r f h (over_test z) refl m e

  ends_body_reads : {u v : List Lexeme} {bs : List WordPair} {ts : List AstTerm} {z : State} (c : Lexeme) → TestsRead all hs gs bs ts p (lexeme.Mark mark.Equivalent q ∷ u) → Holds u [] z (c ∷ v)
      → (t : Option AstTerm) → whole (settled_at z) ≡ t → (m : Moved RuleState Rule) → ends_body (part hs gs bs ts p) t c ≡ Some m → RuleAt all m v
  ends_body_reads (lexeme.Mark mark.Dot d) r h (Some t) i m e = on e (is_done (rule_of d r (body q (whole_reads h t i).1)))
  ends_body_reads c r h (Some t) i m e = absurd cc
  ends_body_reads c r h None i m e = absurd cc

  in_body_reads : {u v : List Lexeme} {bs : List WordPair} {ts : List AstTerm} {z : State} (c : Lexeme) → TestsRead all hs gs bs ts p (lexeme.Mark mark.Equivalent q ∷ u) → Holds u [] z (c ∷ v)
      → (o : Option State) → step z c ≡ o → (m : Moved RuleState Rule) → in_body (part hs gs bs ts p) o c z ≡ Some m → RuleAt all m v
  in_body_reads c r h (Some y) i m e = on e (goes_to (at_body q r (step_reads c h y i)))
  in_body_reads {z} c r h None i m e = ends_body_reads c r h (whole (settled_at z)) refl m e

pub rule_move_reads : {all v : List Lexeme} {z : RuleState} (c : Lexeme) → RuleHolds all z (c ∷ v) → (m : Moved RuleState Rule) → rule_move z c ≡ Some m → RuleAt all m v
rule_move_reads c (at_start b) m e = start_reads c b m e
rule_move_reads c (at_divided q b f) m e = divided_reads q c b f m e
rule_move_reads c (at_head {q} s b h) m e = in_head_reads c s b h (step q c) refl m e
rule_move_reads c (at_heads s i) m e = behind_head_reads c s i m e
rule_move_reads c (at_pair_left q r f) m e = pair_left_reads q c r f m e
rule_move_reads c (at_tilde x q o r f) m e = tilde_reads q x o c r f m e
rule_move_reads c (at_pair_right x q o n r f) m e = pair_right_reads q x o n c r f m e
rule_move_reads c (at_paired q r f i) m e = paired_reads q c r f i m e
rule_move_reads c (at_test {z} q r f h) m e = in_test_reads q c r f h (step z c) refl m e
rule_move_reads c (at_body {z} q r h) m e = in_body_reads q c r h (step z c) refl m e
