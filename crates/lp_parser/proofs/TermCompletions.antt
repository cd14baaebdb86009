-- Every state has a completion.
use Rattle.std.proofs.Common.{◌≡◌, List, [], ◌∷◌, ◌++◌, refl, Some, None}
use Rattle.lp_parser.specs.declared.ast.Place.{Place}
use Rattle.lp_parser.specs.declared.ast.WordKind.TheVariants as word_kind
use Rattle.lp_parser.specs.declared.ast.AstTerm.{AstTerm}
use Rattle.lp_parser.specs.declared.ast.AstTerm.TheVariants as term
use Rattle.lp_parser.specs.declared.lexeme.Closer.TheVariants.{Round, Square}
use Rattle.lp_parser.specs.declared.lexeme.Lexeme.{Lexeme}
use Rattle.lp_parser.specs.declared.lexeme.Lexeme.TheVariants as lexeme
use Rattle.lp_parser.specs.declared.state.Front.TheVariants as front
use Rattle.lp_parser.specs.declared.state.Latest.{Latest}
use Rattle.lp_parser.specs.declared.state.Latest.TheVariants as latest
use Rattle.lp_parser.specs.declared.state.Frame.{Frame}
use Rattle.lp_parser.specs.declared.state.Frame.TheVariants as frame
use Rattle.lp_parser.specs.declared.state.State.{State}
use Rattle.lp_parser.specs.declared.state.State.TheVariants as state
use Rattle.lp_parser.specs.Grammar.{quantified}
use Rattle.lp_parser.specs.inside.TermMachine.{atom_of, joined, settle, settled_at, stack_at}
use Rattle.lp_parser.proofs.TermComplete.{Goes, stays, steps, closing_settled}
use Rattle.lp_parser.proofs.TermSound.{bottom}

-- a place in a text that is made
abbrev pub here : Place
here = record { file = 0; at = 0 }

-- the brackets that are open down to the bottom
abbrev pub closers : List Frame → List Lexeme
closers [] = []
closers (frame.Left o p a ∷ s) = closers s
closers (frame.Body f x ∷ s) = closers s
closers (frame.Quantified q p xs ∷ s) = closers s
closers (frame.Group f ∷ s) = lexeme.Closer Round here ∷ closers s
closers (frame.List f p ts ∷ s) = lexeme.Closer Square here ∷ closers s
closers (frame.Tail f p ts ∷ s) = lexeme.Closer Square here ∷ closers s
closers (frame.Test ∷ s) = []

-- From q the machine comes over the lexemes, whatever follows them, to where all brackets are closed.
abbrev pub CompletesOn : List Frame → State → List Lexeme → Type 0
CompletesOn b q u = (z : State) × (t : AstTerm) × (settled_at z ≡ Some (t, b)) × ((v : List Lexeme) → Goes q (u ++ v) z v)

abbrev pub Completes : State → List Lexeme → Type 0
Completes q u = CompletesOn (bottom (stack_at q)) q u

closes : (s : List Frame) (t : AstTerm) (q : State) → settled_at q ≡ Some (settle t s) → CompletesOn (bottom s) q (closers s)
closes [] t q e = (q, t, e, λ v. stays)
closes (frame.Test ∷ s) t q e = (q, t, e, λ v. stays)
closes (frame.Left o p a ∷ s) t q e = closes s (term.Op o p a t) q e
closes (frame.Body f x ∷ s) t q e = closes s (joined f (term.Bind x.text x.place t)) q e
closes (frame.Quantified b p xs ∷ s) t q e = closes s (quantified b p xs t) q e
closes (frame.Group f ∷ s) t q e =
    let on = closes s (joined f t) (state.Have f (latest.Group t) s) refl in
    (on.0, on.1, on.2, λ v. steps (closing_settled q Round _ e) (on.3 v))
closes (frame.List f p ts ∷ s) t q e =
    let on = closes s (joined f (term.List p (ts ++ t ∷ []) None)) (state.Have f (latest.Plain (term.List p (ts ++ t ∷ []) None)) s) refl in
    (on.0, on.1, on.2, λ v. steps (closing_settled q Square _ e) (on.3 v))
closes (frame.Tail f p ts ∷ s) t q e =
    let on = closes s (joined f (term.List p ts (Some t))) (state.Have f (latest.Plain (term.List p ts (Some t))) s) refl in
    (on.0, on.1, on.2, λ v. steps (closing_settled q Square _ e) (on.3 v))

-- a word
abbrev pub some_word : Lexeme
some_word = lexeme.Word word_kind.Name (112 ∷ []) here

-- its term
abbrev pub some_term : AstTerm
some_term = term.Word word_kind.Name (112 ∷ []) here

-- its atom
abbrev pub some_latest : Latest
some_latest = latest.Word word_kind.Name (112 ∷ []) here

pub completes : (q : State) → (u : List Lexeme) × Completes q u
completes (state.Want s) =
    let on = closes s some_term (state.Have front.Nothing some_latest s) refl in
    (some_word ∷ closers s, (on.0, on.1, on.2, λ v. steps refl (on.3 v)))
completes (state.Quantifier q p s) =
    let on = closes s (term.Quant q p some_term) (state.Have (front.Quantifier q p) some_latest s) refl in
    (some_word ∷ closers s, (on.0, on.1, on.2, λ v. steps refl (on.3 v)))
completes (state.Have f l s) = (closers s, closes s (joined f (atom_of l)) (state.Have f l s) refl)
completes (state.Words q p xs x s) =
    let on = closes (frame.Quantified q p (xs ++ x ∷ []) ∷ s) some_term (state.Have front.Nothing some_latest (frame.Quantified q p (xs ++ x ∷ []) ∷ s)) refl in
    (lexeme.Lambda here ∷ some_word ∷ closers s, (on.0, on.1, on.2, λ v. steps refl (steps refl (on.3 v))))
