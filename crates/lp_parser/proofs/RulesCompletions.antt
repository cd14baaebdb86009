-- Some lexemes lead from each state of a rule that is reached to a rule.
use Rattle.std.proofs.Common.{◌≡◌, List, [], ◌∷◌, ◌++◌, refl, ap, ◌∙◌, Option, Some, None}
use Rattle.lp_parser.specs.declared.ast.Place.{Place}
use Rattle.lp_parser.specs.declared.ast.WordKind.TheVariants.{Var}
use Rattle.lp_parser.specs.declared.ast.Word.{Word}
use Rattle.lp_parser.specs.declared.ast.Rule.{Rule}
use Rattle.lp_parser.specs.declared.lexeme.Closer.TheVariants.{Round}
use Rattle.lp_parser.specs.declared.lexeme.Mark.TheVariants as mark
use Rattle.lp_parser.specs.declared.lexeme.Lexeme.{Lexeme}
use Rattle.lp_parser.specs.declared.lexeme.Lexeme.TheVariants as lexeme
use Rattle.lp_parser.specs.declared.state.Frame.{Frame}
use Rattle.lp_parser.specs.declared.state.Frame.TheVariants as frame
use Rattle.lp_parser.specs.declared.state.State.{State}
use Rattle.lp_parser.specs.declared.state.State.TheVariants as state
use Rattle.lp_parser.specs.declared.item_state.Side.{Side}
use Rattle.lp_parser.specs.declared.item_state.Side.TheVariants.{Kept, Removed}
use Rattle.lp_parser.specs.declared.item_state.RulePlace.{RulePlace}
use Rattle.lp_parser.specs.declared.item_state.RulePlace.TheVariants as at
use Rattle.lp_parser.specs.declared.item_state.RuleState.{RuleState}
use Rattle.lp_parser.specs.declared.item_state.Moved.TheVariants.{To, Done}
use Rattle.lp_parser.specs.inside.TermMachine.{settled_at, stack_at}
use Rattle.lp_parser.specs.inside.RuleMachine.{with_head, with_test, with_body, whole, over_test, head_ends, in_head, ends_test, in_test, ends_body, in_body, rule_move}
use Rattle.lp_parser.proofs.TermComplete.{Goes, stays, steps}
use Rattle.lp_parser.proofs.TermSound.{Holds, step_reads, bottom, bottom_is}
use Rattle.lp_parser.proofs.TermCompletions.{completes}
use Rattle.lp_parser.proofs.Walks.{rests, Ends, ends, and_ends, moves_first}
use Rattle.lp_parser.proofs.RuleTests.{goes_within, closed_over}
use Rattle.lp_parser.proofs.Rules.{here, no_closer}
use Rattle.lp_parser.proofs.RulesSound.{RuleHolds, at_head, at_test, at_body}

-- The state is reached: whatever follows, some lexemes lead to it.
abbrev pub Reached : RuleState → Type 0
Reached z = (v : List Lexeme) → (all : List Lexeme) × RuleHolds all z v

abbrev pub RuleCompletes : RuleState → Type 0
RuleCompletes z = (u : List Lexeme) × (r : Rule) × Ends rule_move z u r []

-- a place, a dot and a variable
abbrev spot : Place
spot = record { file = 0; at = 0 }

abbrev dot : Lexeme
dot = lexeme.Mark mark.Dot spot

abbrev some_variable : Lexeme
some_variable = lexeme.Word Var (88 ∷ []) spot

first_move : {z y : RuleState} (c : Lexeme) → rule_move z c ≡ Some (To y) → RuleCompletes y → RuleCompletes z
first_move c e (u, r, m) = (c ∷ u, r, moves_first e m)

ends_at_once : (z : RuleState) (r : Rule) → rule_move z dot ≡ Some (Done r) → RuleCompletes z
ends_at_once z r e = (dot ∷ [], r, ends rests e)

heads_complete : (r : Rule) (d : Side) → RuleCompletes (here r (at.Heads d))
heads_complete r Kept = ends_at_once (here r (at.Heads Kept)) r refl
heads_complete r Removed = ends_at_once (here r (at.Heads Removed)) r refl

-- the lexemes that hold in a state hold where it goes
goes_reads : {all u v : List Lexeme} {b : List Frame} {q z : State} → Goes q u z v → Holds all b q u → Holds all b z v
goes_reads stays h = h
goes_reads (steps {p} {c} e g) h = goes_reads g (step_reads c h p e)

head_bottom : {all v : List Lexeme} (r : Rule) (d : Side) (x : Option Word) (q : State) → RuleHolds all (here r (at.Head d x q)) v → bottom (stack_at q) ≡ []
head_bottom r d x q (at_head s b h) = bottom_is h

body_bottom : {all v : List Lexeme} (r : Rule) (q : State) → RuleHolds all (here r (at.Body q)) v → bottom (stack_at q) ≡ []
body_bottom r q (at_body o t h) = bottom_is h

test_holds : {all v : List Lexeme} (r : Rule) (q : State) → RuleHolds all (here r (at.Test q)) v → (w : List Lexeme) × Holds w (frame.Test ∷ []) q v
test_holds r q (at_test {v = w} o p f h) = (w, h)

-- A head that is begun ends.
head_completes : (r : Rule) (d : Side) (x : Option Word) (q : State) → bottom (stack_at q) ≡ [] → RuleCompletes (here r (at.Head d x q))
head_completes r d x q b =
    let on = completes q in
    let z = on.1.0 in
    let t = on.1.1 in
    let e : settled_at z ≡ Some (t, []) = on.1.2 ∙ ap (λ y. Some (t, y)) b in
    let by = heads_complete (with_head r d (record { context = x; goal = t })) d in (
      on.0 ++ lexeme.Closer Round spot ∷ by.0,
      by.1,
      and_ends (goes_within {g = rule_move} (λ q. here r (at.Head d x q)) (λ q z c e. ap (λ o. in_head r d x o c q) e) (on.1.3 (lexeme.Closer Round spot ∷ by.0)))
          (moves_first (ap (λ o. in_head r d x o (lexeme.Closer Round spot) z) (no_closer z t e spot) ∙ ap (λ o. head_ends r d x (whole o)) e) by.2),
    )

-- A body that is begun ends.
body_completes : (r : Rule) (q : State) → bottom (stack_at q) ≡ [] → RuleCompletes (here r (at.Body q))
body_completes r q b =
    let on = completes q in
    let z = on.1.0 in
    let t = on.1.1 in
    let e : settled_at z ≡ Some (t, []) = on.1.2 ∙ ap (λ y. Some (t, y)) b in (
      on.0 ++ dot ∷ [],
      with_body r t,
      ends (goes_within {g = rule_move} (λ q. here r (at.Body q)) (λ q z c e. ap (λ o. in_body r o c q) e) (on.1.3 (dot ∷ [])))
          (ap (λ o. ends_body r (whole o) dot) e),
    )

-- A test that is begun ends.
test_completes : (r : Rule) (q : State) → Reached (here r (at.Test q)) → RuleCompletes (here r (at.Test q))
test_completes r q k =
    let on = completes q in
    let z = on.1.0 in
    let t = on.1.1 in
    let reached = k (on.0 ++ dot ∷ []) in
    let h = test_holds r q reached.1 in
    let e : settled_at z ≡ Some (t, frame.Test ∷ []) = on.1.2 ∙ ap (λ y. Some (t, y)) (bottom_is h.1) in
    let over : over_test z ≡ Some t = closed_over (goes_reads (on.1.3 (dot ∷ [])) h.1) t e in (
      on.0 ++ dot ∷ [],
      with_test r t,
      ends (goes_within {g = rule_move} (λ q. here r (at.Test q)) (λ q z c e. ap (λ o. in_test r o c q) e) (on.1.3 (dot ∷ [])))
          (ap (λ o. ends_test r o dot) over),
    )

new_head_completes : (r : Rule) (d : Side) → RuleCompletes (here r (at.Head d None (state.Want [])))
new_head_completes r d = head_completes r d None (state.Want []) refl

completes_at : (r : Rule) (a : RulePlace) → Reached (here r a) → RuleCompletes (here r a)
completes_at r at.Start k = first_move (lexeme.OpenRound spot) refl (new_head_completes r Kept)
completes_at r at.Divided k = first_move (lexeme.OpenRound spot) refl (new_head_completes r Removed)
completes_at r (at.Heads d) k = heads_complete r d
completes_at r (at.Head d x q) k = head_completes r d x q (head_bottom r d x q (k []).1)
completes_at r at.PairLeft k =
    first_move some_variable refl (first_move (lexeme.Mark mark.Tilde spot) refl (first_move some_variable refl (ends_at_once _ _ refl)))
completes_at r (at.Tilde w) k = first_move (lexeme.Mark mark.Tilde spot) refl (first_move some_variable refl (ends_at_once _ _ refl))
completes_at r (at.PairRight w) k = first_move some_variable refl (ends_at_once _ _ refl)
completes_at r at.Paired k = ends_at_once (here r at.Paired) r refl
completes_at r (at.Test q) k = test_completes r q k
completes_at r (at.Body q) k = body_completes r q (body_bottom r q (k []).1)

pub rule_completes : (z : RuleState) → Reached z → RuleCompletes z
rule_completes z k = completes_at z.rule z.at k
