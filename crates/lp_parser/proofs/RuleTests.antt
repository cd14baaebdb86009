-- Where a test of a rule is over.
use Rattle.std.proofs.Common.{◌≡◌, ◌≤◌, List, [], ◌∷◌, refl, sym, ap, subst, arith, true, false, Option, Some, None}
use Rattle.std.proofs.lemmas.Option.{same_Some}
use Rattle.lp_parser.specs.declared.ast.Place.{Place}
use Rattle.lp_parser.specs.declared.ast.Operator.{Operator}
use Rattle.lp_parser.specs.declared.ast.AstTerm.{AstTerm}
use Rattle.lp_parser.specs.declared.ast.AstTerm.TheVariants as term
use Rattle.lp_parser.specs.declared.lexeme.Lexeme.{Lexeme}
use Rattle.lp_parser.specs.declared.state.Front.{Front}
use Rattle.lp_parser.specs.declared.state.Latest.{Latest}
use Rattle.lp_parser.specs.declared.state.Frame.{Frame}
use Rattle.lp_parser.specs.declared.state.Frame.TheVariants as frame
use Rattle.lp_parser.specs.declared.state.State.{State}
use Rattle.lp_parser.specs.declared.state.State.TheVariants as state
use Rattle.lp_parser.specs.declared.item_state.Moved.{Moved}
use Rattle.lp_parser.specs.declared.item_state.Moved.TheVariants.{To}
use Rattle.lp_parser.specs.Grammar.{level, Closed, Phrase, quantified}
use Rattle.lp_parser.specs.inside.TermMachine.{atom_of, joined, attach, settle, settled_at, want, stack_at, may_be_open, infixed, step}
use Rattle.lp_parser.specs.inside.RuleMachine.{over_test}
use Rattle.lp_parser.proofs.Levels.{wanted, level_eight}
use Rattle.lp_parser.proofs.TermComplete.{Goes, stays, steps, test_goes}
use Rattle.lp_parser.proofs.TermSound.{Reading, start, start_test, left, in_body, in_quantified, in_group, in_list, in_tail, Holds, at_want, at_quantifier, at_have, at_words, bottom, bottom_is, test_reads}
use Rattle.lp_parser.proofs.Walks.{Moves, rests, moves}

-- The machine of terms within another goes as it does.
pub goes_within : {T A : Type 0} {g : T → Lexeme → Option (Moved T A)} (in_it : State → T)
    → ((q z : State) (c : Lexeme) → step q c ≡ Some z → g (in_it q) c ≡ Some (To (in_it z)))
    → {q z : State} {u v : List Lexeme} → Goes q u z v → Moves g (in_it q) u (in_it z) v
goes_within in_it k stays = rests
goes_within in_it k (steps {q} {p} {c} e m) = moves (k q p c e) (goes_within in_it k m)

over_have : (f : Front) (l : Latest) (s r : List Frame) (t : AstTerm) → s ≡ frame.Test ∷ r → settled_at (state.Have f l s) ≡ Some (t, frame.Test ∷ r) → over_test (state.Have f l s) ≡ Some t
over_have f l s r t i e =
    let at_test : settled_at (state.Have f l (frame.Test ∷ r)) ≡ Some (t, frame.Test ∷ r) = subst (λ y. settled_at (state.Have f l y) ≡ Some (t, frame.Test ∷ r)) i e in
    let same : joined f (atom_of l) ≡ t = ap (λ y. y.0) (same_Some _ _ at_test) in
    subst (λ y. over_test (state.Have f l y) ≡ Some t) (sym i) (ap Some same)

-- A test is over where its brackets are closed.
pub over : (z : State) (r : List Frame) (t : AstTerm) → stack_at z ≡ frame.Test ∷ r → settled_at z ≡ Some (t, frame.Test ∷ r) → over_test z ≡ Some t
over (state.Want s) r t i e = absurd cc
over (state.Quantifier q p s) r t i e = absurd cc
over (state.Have f l s) r t i e = over_have f l s r t i e
over (state.Words q p xs x s) r t i e = absurd cc

-- An operator behind it isn't its own.
pub no_infix : (z : State) (r : List Frame) (o : Operator) (p : Place) → stack_at z ≡ frame.Test ∷ r → infixed z o p ≡ None
no_infix (state.Want s) r o p i = refl
no_infix (state.Quantifier q d s) r o p i = refl
no_infix (state.Have f l s) r o p i = ap (λ y. want (attach o p 9 (joined f (atom_of l)) y)) i
no_infix (state.Words q d xs x s) r o p i = refl

-- A test is read to a state in which it is over.
pub test_over : {u v : List Lexeme} {t : AstTerm} → Phrase 9 Closed u v t
    → (z : State) × Goes (state.Want (frame.Test ∷ [])) u z v × (over_test z ≡ Some t) × (stack_at z ≡ frame.Test ∷ [])
test_over {t} a = let on = test_goes a (omega arith) tt [] in (on.0, on.1, over on.0 [] t on.2.stack on.2.settled, on.2.stack)

over_settled : (q : State) (t : AstTerm) → over_test q ≡ Some t → bottom (stack_at q) ≡ frame.Test ∷ [] → settled_at q ≡ Some (t, frame.Test ∷ [])
over_settled (state.Want s) t e i = absurd cc
over_settled (state.Quantifier q p s) t e i = absurd cc
over_settled (state.Have f l []) t e i = absurd cc
over_settled (state.Have f l (frame.Left o p a ∷ s)) t e i = absurd cc
over_settled (state.Have f l (frame.Body g x ∷ s)) t e i = absurd cc
over_settled (state.Have f l (frame.Quantified q p xs ∷ s)) t e i = absurd cc
over_settled (state.Have f l (frame.Group g ∷ s)) t e i = absurd cc
over_settled (state.Have f l (frame.List g p ts ∷ s)) t e i = absurd cc
over_settled (state.Have f l (frame.Tail g p ts ∷ s)) t e i = absurd cc
over_settled (state.Have f l (frame.Test ∷ s)) t e i = ap Some (cc)
over_settled (state.Words q p xs x s) t e i = absurd cc

-- What is over is a test.
pub over_reads : {all v : List Lexeme} {q : State} → Holds all (frame.Test ∷ []) q v → (t : AstTerm) → over_test q ≡ Some t → Phrase 9 Closed all v t
over_reads {q} h t e = test_reads h t (over_settled q t e (bottom_is h))

-- Nothing but the test itself is open where its brackets are closed.
bare : {all u : List Lexeme} {b s : List Frame} → Reading all b s u → (t x : AstTerm) → settle t s ≡ (x, frame.Test ∷ []) → s ≡ frame.Test ∷ []
bare start t x e = let other : [] ≡ frame.Test ∷ [] = ap (λ y. y.1) e in absurd cc
bare start_test t x e = refl
bare (left {s} {a} o p r l pa) t x e =
    let below : s ≡ frame.Test ∷ [] = bare r (term.Op o p a t) x e in
    let nine : 9 ≤ level o = subst (λ y. wanted y ≤ level o) below l in
    absurd (omega (arith, nine, level_eight o))
bare (in_body {s} {f} {x = y} {p} r n i m) t x e =
    let below : s ≡ frame.Test ∷ [] = bare r (joined f (term.Bind y p t)) x e in
    let bad : false ≡ true = subst (λ y. may_be_open y ≡ true) below n in absurd cc
bare (in_quantified {s} {q} {p} {xs} r n ws) t x e =
    let below : s ≡ frame.Test ∷ [] = bare r (quantified q p xs t) x e in
    let bad : false ≡ true = subst (λ y. may_be_open y ≡ true) below n in absurd cc
bare (in_group {s} {f} r i) t x e = let other : frame.Group f ∷ s ≡ frame.Test ∷ [] = ap (λ y. y.1) e in absurd cc
bare (in_list {s} {f} {p} {ts} r i es) t x e = let other : frame.List f p ts ∷ s ≡ frame.Test ∷ [] = ap (λ y. y.1) e in absurd cc
bare (in_tail {s} {f} {p} {ts} r i es) t x e = let other : frame.Tail f p ts ∷ s ≡ frame.Test ∷ [] = ap (λ y. y.1) e in absurd cc

bare_state : {all v : List Lexeme} {q : State} → Holds all (frame.Test ∷ []) q v → (t : AstTerm) → settled_at q ≡ Some (t, frame.Test ∷ []) → stack_at q ≡ frame.Test ∷ []
bare_state (at_want r) t e = absurd cc
bare_state (at_quantifier r) t e = absurd cc
bare_state (at_have {f} {l} r g i) t e = bare r (joined f (atom_of l)) t (same_Some _ _ e)
bare_state (at_words r m w) t e = absurd cc

pub closed_over : {all v : List Lexeme} {q : State} → Holds all (frame.Test ∷ []) q v → (t : AstTerm) → settled_at q ≡ Some (t, frame.Test ∷ []) → over_test q ≡ Some t
closed_over {q} h t e = over q [] t (bare_state h t e) e
