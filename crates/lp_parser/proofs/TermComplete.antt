-- What the grammar accepts the machine reads, as the same tree.
use Rattle.std.proofs.Common.{◌≡◌, ℕ, ◌≤◌, ◌⊎◌, inl, inr, List, [], ◌∷◌, ◌++◌, refl, ap, subst, ◌∙◌, append_assoc, append-nil, arith, Bool, true, false, cond, Option, Some, None, nat_le}
use Rattle.std.proofs.lemmas.Bool.Decides.{leb_tells, nat_tests}
use Rattle.lp_parser.specs.declared.ast.Place.{Place}
use Rattle.lp_parser.specs.declared.ast.WordKind.{WordKind}
use Rattle.lp_parser.specs.declared.ast.Word.{Word}
use Rattle.lp_parser.specs.declared.ast.Operator.{Operator}
use Rattle.lp_parser.specs.declared.ast.Operator.TheVariants.{Comma}
use Rattle.lp_parser.specs.declared.ast.AstTerm.{AstTerm}
use Rattle.lp_parser.specs.declared.ast.AstTerm.TheVariants as term
use Rattle.lp_parser.specs.declared.lexeme.Closer.{Closer}
use Rattle.lp_parser.specs.declared.lexeme.Closer.TheVariants.{Round, Square, Bar}
use Rattle.lp_parser.specs.declared.lexeme.Lexeme.{Lexeme}
use Rattle.lp_parser.specs.declared.lexeme.Lexeme.TheVariants as lexeme
use Rattle.lp_parser.specs.declared.state.Front.{Front}
use Rattle.lp_parser.specs.declared.state.Front.TheVariants as front
use Rattle.lp_parser.specs.declared.state.Latest.{Latest}
use Rattle.lp_parser.specs.declared.state.Latest.TheVariants as latest
use Rattle.lp_parser.specs.declared.state.Frame.{Frame}
use Rattle.lp_parser.specs.declared.state.Frame.TheVariants as frame
use Rattle.lp_parser.specs.declared.state.State.{State}
use Rattle.lp_parser.specs.declared.state.State.TheVariants as state
use Rattle.lp_parser.specs.Grammar.{level, left_level, right_level, literal_term, Shape, Closed, Open, Words, last_word, word_and, Phrase, tighter, infix_of, alone, applied, applied_binder, binder, quantifier_of, quantifier_body, Binder, binds, Simple, word, group, Atom, simple, literal_of, empty_list, list_of, list_with_tail, Elements, last_element, element_and, Atoms, no_atom, atom_and}
use Rattle.lp_parser.specs.inside.TermMachine.{atom_of, joined, front_after, onto, attach, settle, settled_at, closed, closing, closed_at, want, atom, opened, opened_list, front_at, stack_at, may_be_open, second_word, worded, body, infixed, step}
use Rattle.lp_parser.proofs.Levels.{wanted, level_eight, level_left, level_right, apart}

-- From q the machine comes over the lexemes u to z, with v left.
pub data Goes : State → List Lexeme → State → List Lexeme → Type 0 where
  stays : {q : State} {u : List Lexeme} → Goes q u q u
  steps : {q p z : State} {c : Lexeme} {u v : List Lexeme} → step q c ≡ Some p → Goes p u z v → Goes q (c ∷ u) z v

pub and_goes : {q p z : State} {u v w : List Lexeme} → Goes q u p v → Goes p v z w → Goes q u z w
and_goes stays h = h
and_goes (steps e g) h = steps e (and_goes g h)

pub one_step : {q p : State} {c : Lexeme} {u : List Lexeme} → step q c ≡ Some p → Goes q (c ∷ u) p u
one_step e = steps e stays

-- a closed phrase
abbrev pub IsClosed : Shape → Type 0
IsClosed Closed = Unit {0}
IsClosed Open = ⊥

-- In the state z a phrase of that level and shape is read as t over the stack s: what ends it and an operator behind it do what they do there.
pub record Reads (k : ℕ) (h : Shape) (t : AstTerm) (s : List Frame) (z : State) : Type 0 where
  pub settled : settled_at z ≡ Some (settle t s)
  pub infix_behind : IsClosed h → (o : Operator) (p : Place) (s' : List Frame) → attach o p k t s ≡ Some s' → infixed z o p ≡ Some (state.Want s')

guard : {A : Type 0} (m j k : ℕ) (x : A) → j ≤ k → (b c : Option A) → b ≡ cond (nat_le m j) (Some x) None → c ≡ cond (nat_le m k) (Some x) None → (b ≡ None) ⊎ (b ≡ c)
guard m j k x h b c e f = grind (arith, nat_tests)

onto_tighter : (o : Operator) (p : Place) (j k : ℕ) (t : AstTerm) (s : List Frame) → j ≤ k → (onto o p j t s ≡ None) ⊎ (onto o p j t s ≡ onto o p k t s)
onto_tighter o p j k t s h = guard (left_level o) j k _ h _ _ refl refl

either : {A : Type 0} (b : Bool) (x y z : Option A) → (x ≡ None) ⊎ (x ≡ y) → (cond b x z ≡ None) ⊎ (cond b x z ≡ cond b y z)
either true x y z h = h
either false x y z h = inr refl

-- What a looser phrase may be a side of, a tighter one may.
attach_tighter : (o : Operator) (p : Place) (j k : ℕ) (t : AstTerm) (s : List Frame) → j ≤ k → (attach o p j t s ≡ None) ⊎ (attach o p j t s ≡ attach o p k t s)
attach_tighter o p j k t [] h = onto_tighter o p j k t _ h
attach_tighter o p j k t (frame.Group f ∷ s) h = onto_tighter o p j k t _ h
attach_tighter o p j k t (frame.Body f x ∷ s) h = onto_tighter o p j k t _ h
attach_tighter o p j k t (frame.Quantified q r xs ∷ s) h = onto_tighter o p j k t _ h
attach_tighter o p j k t (frame.Left q r a ∷ s) h = either (nat_le (right_level q) (level o)) _ _ _ (onto_tighter o p j k t _ h)
attach_tighter o p j k t (frame.List f r ts ∷ s) h = either (nat_le 4 (level o)) _ _ _ (onto_tighter o p j k t _ h)
attach_tighter o p j k t (frame.Tail f r ts ∷ s) h = either (nat_le 4 (level o)) _ _ _ (onto_tighter o p j k t _ h)
attach_tighter o p j k t (frame.Test ∷ s) h = inl refl

-- An operator that takes a phrase as its left side needs one of its level, where the stack wants no tighter one.
attach_needs : (o : Operator) (p : Place) (k : ℕ) (t : AstTerm) (s s' : List Frame) → wanted s ≤ level o → attach o p k t s ≡ Some s' → left_level o ≤ k
attach_needs o p k t [] s' h e = grind (arith, nat_tests)
attach_needs o p k t (frame.Group f ∷ s) s' h e = grind (arith, nat_tests)
attach_needs o p k t (frame.Body f x ∷ s) s' h e = grind (arith, nat_tests)
attach_needs o p k t (frame.Quantified q r xs ∷ s) s' h e = grind (arith, nat_tests)
attach_needs o p k t (frame.Left q r a ∷ s) s' h e = grind (arith, nat_tests)
attach_needs o p k t (frame.List f r ts ∷ s) s' h e = grind (arith, nat_tests)
attach_needs o p k t (frame.Tail f r ts ∷ s) s' h e = grind (arith, nat_tests)
attach_needs o p k t (frame.Test ∷ s) s' h e = absurd cc

-- Behind the right side of o, an operator that takes the whole as its left side closes o.
attach_past : (o q : Operator) (p r : Place) (a b : AstTerm) (s s' : List Frame) → wanted s ≤ level o
    → attach q r (level o) (term.Op o p a b) s ≡ Some s' → attach q r (right_level o) b (frame.Left o p a ∷ s) ≡ Some s'
attach_past o q p r a b s s' h e =
    elim (leb_tells (right_level o) (level q)) [
      | inl holds ↦ absurd (apart o q holds.1 (attach_needs q r (level o) (term.Op o p a b) s s' (omega (arith, level_right o, h, holds.1)) e))
      | inr fails ↦ rw fails.0 e
    ]

-- Where an operator attaches at the level that the stack wants, the stack then has its left side.
attach_here : (o : Operator) (p : Place) (a : AstTerm) (s : List Frame) → wanted s ≤ level o → attach o p (left_level o) a s ≡ Some (frame.Left o p a ∷ s)
attach_here o p a [] h = grind (arith, nat_tests)
attach_here o p a (frame.Group f ∷ s) h = grind (arith, nat_tests)
attach_here o p a (frame.Body f x ∷ s) h = grind (arith, nat_tests)
attach_here o p a (frame.Quantified q r xs ∷ s) h = grind (arith, nat_tests)
attach_here o p a (frame.Left q r b ∷ s) h = grind (arith, nat_tests)
attach_here o p a (frame.List f r ts ∷ s) h = grind (arith, nat_tests)
attach_here o p a (frame.Tail f r ts ∷ s) h = grind (arith, nat_tests)
attach_here o p a (frame.Test ∷ s) h = absurd (omega (arith, h, level_eight o))

attach_looser : (o : Operator) (p : Place) (j k : ℕ) (t : AstTerm) (s s' : List Frame) → j ≤ k → attach o p j t s ≡ Some s' → attach o p k t s ≡ Some s'
attach_looser o p j k t s s' h e = elim (attach_tighter o p j k t s h) [ inl is_none ↦ absurd cc | inr same ↦ cc ]

pub reads_atom : (f : Front) (l : Latest) (s : List Frame) → Reads 9 Closed (joined f (atom_of l)) s (state.Have f l s)
reads_atom f l s = record { settled = refl; infix_behind = λ i o p s' e. ap want e }

pub closing_settled : (z : State) (c : Closer) (p : AstTerm × List Frame) → settled_at z ≡ Some p → closing z c ≡ closed c p
closing_settled (state.Want s) c p e = absurd cc
closing_settled (state.Quantifier q r s) c p e = absurd cc
closing_settled (state.Have f l s) c p e = ap (λ o. closed_at c o) e
closing_settled (state.Words q r xs x s) c p e = absurd cc

-- the atom may be the head of an application
abbrev pub IsHead : Latest → Type 0
IsHead (latest.Word k x p) = Unit {0}
IsHead (latest.Group t) = Unit {0}
IsHead (latest.Plain t) = ⊥

pub front_head : (l : Latest) → IsHead l → front_after front.Nothing l ≡ Some (front.Applied (atom_of l) [])
front_head (latest.Word k x p) i = refl
front_head (latest.Group t) i = refl
front_head (latest.Plain t) i = elim i [ ]

-- A state whose front has arguments is one behind an atom.
pub data BehindArguments (h t : AstTerm) (ts : List AstTerm) : State → Type 0 where
  behind : {f : Front} {l : Latest} {s : List Frame} → joined f (atom_of l) ≡ term.App h (t ∷ ts) → BehindArguments h t ts (state.Have f l s)

pub behind_arguments : (z : State) (h t : AstTerm) (ts : List AstTerm) → front_at z ≡ Some (front.Applied h (t ∷ ts)) → BehindArguments h t ts z
behind_arguments (state.Have (front.Applied g us) l s) h t ts e = behind cc
behind_arguments (state.Have front.Nothing (latest.Word k x p) s) h t ts e = absurd cc
behind_arguments (state.Have front.Nothing (latest.Group u) s) h t ts e = absurd cc
behind_arguments (state.Have front.Nothing (latest.Plain u) s) h t ts e = absurd cc
behind_arguments (state.Have (front.Quantifier q p) l s) h t ts e = absurd cc
behind_arguments (state.Want s) h t ts e = absurd cc
behind_arguments (state.Quantifier q p s) h t ts e = absurd cc
behind_arguments (state.Words q p xs x s) h t ts e = absurd cc

pub reads_applied : {z : State} {h t : AstTerm} {ts : List AstTerm} → BehindArguments h t ts z → Reads 9 Closed (term.App h (t ∷ ts)) (stack_at z) z
reads_applied (behind {f} {l} {s} e) = subst (λ y. Reads 9 Closed y s (state.Have f l s)) e (reads_atom f l s)

-- A word is an atom, where a further atom may stand.
pub word_front : (q : State) (f : Front) (k : WordKind) (x : Word) → front_at q ≡ Some f → worded q k x ≡ Some (state.Have f (latest.Word k x.text x.place) (stack_at q))
word_front (state.Want s) f k x e = cc
word_front (state.Quantifier q p s) f k x e = cc
word_front (state.Have front.Nothing l s) f k x e = ap (λ o. atom o (latest.Word k x.text x.place) s) e
word_front (state.Have (front.Applied h ts) l s) f k x e = ap (λ o. atom o (latest.Word k x.text x.place) s) e
word_front (state.Have (front.Quantifier q p) l s) f k x e = absurd cc
word_front (state.Words q p xs y s) f k x e = absurd cc

-- a binder behind this front
abbrev pub MayBind : Front → Type 0
MayBind front.Nothing = Unit {0}
MayBind (front.Applied h ts) = Unit {0}
MayBind (front.Quantifier q p) = ⊥

body_front : (f : Front) (k : WordKind) (x : List ℕ) (p : Place) (s : List Frame) → may_be_open s ≡ true → MayBind f
    → body f (latest.Word k x p) s ≡ Some (state.Want (frame.Body f (record { text = x; place = p }) ∷ s))
body_front front.Nothing k x p s m i = rw m refl
body_front (front.Applied h ts) k x p s m i = rw m refl
body_front (front.Quantifier q r) k x p s m i = elim i [ ]

-- the `\` behind one word of a quantifier
body_quantified : (q : Bool) (r : Place) (k : WordKind) (x : List ℕ) (p : Place) (s : List Frame) → may_be_open s ≡ true
    → body (front.Quantifier q r) (latest.Word k x p) s ≡ Some (state.Want (frame.Quantified q r (record { text = x; place = p } ∷ []) ∷ s))
body_quantified q r k x p s m = rw m refl

second_goes : (q : Bool) (r : Place) (j : WordKind) (y : List ℕ) (p : Place) (k : WordKind) (x : Word) (s : List Frame) → may_be_open s ≡ true
    → second_word (front.Quantifier q r) (latest.Word j y p) s k x ≡ Some (state.Words q r (record { text = y; place = p } ∷ []) x s)
second_goes q r j y p k x s m = rw m refl

more_words : {u v : List Lexeme} {xs : List Word} {l : Place} → Words u (lexeme.Lambda l ∷ v) xs → (q : Bool) (r : Place) (pre : List Word) (y : Word) (s : List Frame)
    → Goes (state.Words q r pre y s) u (state.Want (frame.Quantified q r ((pre ++ y ∷ []) ++ xs) ∷ s)) v
more_words (last_word k x p) q r pre y s = steps refl (one_step refl)
more_words {v} (word_and {u = u1} {xs} k x p w) q r pre y s =
    let z : Word = record { text = x; place = p } in
    steps refl (subst (λ ys. Goes (state.Words q r (pre ++ y ∷ []) z s) u1 (state.Want (frame.Quantified q r ys ∷ s)) v) (append_assoc (pre ++ y ∷ []) (z ∷ []) xs) (more_words w q r (pre ++ y ∷ []) z s))

words_go : {u v : List Lexeme} {xs : List Word} {l : Place} → Words u (lexeme.Lambda l ∷ v) xs → (q : Bool) (r : Place) (s : List Frame) → may_be_open s ≡ true
    → Goes (state.Quantifier q r s) u (state.Want (frame.Quantified q r xs ∷ s)) v
words_go (last_word k x p) q r s m = steps refl (one_step (body_quantified q r k x p s m))
words_go (word_and k x p (last_word j y o)) q r s m = steps refl (steps (second_goes q r k x p j (record { text = y; place = o }) s m) (one_step refl))
words_go (word_and k x p (word_and j y o w)) q r s m =
    steps refl (steps (second_goes q r k x p j (record { text = y; place = o }) s m) (more_words w q r (record { text = x; place = p } ∷ []) (record { text = y; place = o }) s))

mutual
  pub phrase_goes : {k : ℕ} {h : Shape} {u v : List Lexeme} {t : AstTerm} → Phrase k h u v t
      → (s : List Frame) → wanted s ≤ k → may_be_open s ≡ true → (z : State) × Goes (state.Want s) u z v × Reads k h t s z
  phrase_goes (tighter {j} {k} {t} le p) s w m =
      let on = phrase_goes p s (omega (arith, le, w)) m in
      (on.0, on.1, record { settled = on.2.settled; infix_behind = λ i o r s' e. on.2.infix_behind i o r s' (attach_looser o r j k t s s' le e) })
  phrase_goes (infix_of {a} {b} o r p q) s w m =
      let on = phrase_goes p s (omega (arith, level_left o, w)) m in
      let by = phrase_goes q (frame.Left o r a ∷ s) (omega arith) refl in (
        by.0,
        and_goes on.1 (steps (on.2.infix_behind tt o r (frame.Left o r a ∷ s) (attach_here o r a s w)) by.1),
        record { settled = by.2.settled; infix_behind = λ i p' r' s' e. by.2.infix_behind i p' r' s' (attach_past o p' r r' a b s s' w e) },
      )
  phrase_goes (alone p) s w m =
      let on = atom_goes p (state.Want s) front.Nothing refl in
      (state.Have front.Nothing on.0 s, on.2, subst (λ y. Reads 9 Closed y s (state.Have front.Nothing on.0 s)) on.1 (reads_atom front.Nothing on.0 s))
  phrase_goes (applied {h} {t} {ts} p q) s w m =
      let on = simple_goes p (state.Want s) front.Nothing refl in
      let by = atoms_go q (state.Have front.Nothing on.0 s) h [] (front_head on.0 on.2 ∙ ap (λ y. Some (front.Applied y [])) on.1) in
      (by.0, and_goes on.3 by.3, subst (λ y. Reads 9 Closed (term.App h (t ∷ ts)) y by.0) by.2 (reads_applied (behind_arguments by.0 h t ts by.1)))
  phrase_goes (applied_binder {h} {b} {ts} p q c) s w m =
      let on = simple_goes p (state.Want s) front.Nothing refl in
      let by = atoms_go q (state.Have front.Nothing on.0 s) h [] (front_head on.0 on.2 ∙ ap (λ y. Some (front.Applied y [])) on.1) in
      let last_one = binder_goes c by.0 (front.Applied h ts) by.1 (ap may_be_open by.2 ∙ m) tt in
      (last_one.0, and_goes on.3 (and_goes by.3 last_one.1), subst (λ y. Reads 9 Open (term.App h (ts ++ b ∷ [])) y last_one.0) by.2 last_one.2)
  phrase_goes (binder p) s w m = binder_goes p (state.Want s) front.Nothing refl m tt
  phrase_goes (quantifier_of q r p) s w m =
      let on = atom_goes p (state.Quantifier q r s) (front.Quantifier q r) refl in (
        state.Have (front.Quantifier q r) on.0 s,
        steps refl on.2,
        subst (λ y. Reads 9 Closed (term.Quant q r y) s (state.Have (front.Quantifier q r) on.0 s)) on.1 (reads_atom (front.Quantifier q r) on.0 s),
      )
  phrase_goes (quantifier_body {xs} q r l ws p) s w m =
      let on = phrase_goes p (frame.Quantified q r xs ∷ s) (omega arith) refl in
      (on.0, steps refl (and_goes (words_go ws q r s m) on.1), record { settled = on.2.settled; infix_behind = λ i o r' s' e. elim i [ ] })

  pub binder_goes : {u v : List Lexeme} {b : AstTerm} → Binder u v b
      → (q : State) (f : Front) → front_at q ≡ Some f → may_be_open (stack_at q) ≡ true → MayBind f → (z : State) × Goes q u z v × Reads 9 Open (joined f b) (stack_at q) z
  binder_goes (binds k x r l p) q f i m b =
      let z : Word = record { text = x; place = r } in
      let on = phrase_goes p (frame.Body f z ∷ stack_at q) (omega arith) refl in (
        on.0,
        steps (word_front q f k z i) (steps (body_front f k x r (stack_at q) m b) on.1),
        record { settled = on.2.settled; infix_behind = λ i' o r' s' e. elim i' [ ] },
      )

  pub simple_goes : {u v : List Lexeme} {t : AstTerm} → Simple u v t
      → (q : State) (f : Front) → front_at q ≡ Some f → (l : Latest) × (atom_of l ≡ t) × IsHead l × Goes q u (state.Have f l (stack_at q)) v
  simple_goes (word k x r) q f i = (latest.Word k x r, refl, tt, one_step (word_front q f k (record { text = x; place = r }) i))
  simple_goes (group {t} o r p) q f i =
      let on = phrase_goes p (frame.Group f ∷ stack_at q) (omega arith) refl in
      (latest.Group t, refl, tt, steps (ap (λ y. opened y (stack_at q)) i) (and_goes on.1 (one_step (closing_settled on.0 Round _ on.2.settled))))

  pub atom_goes : {u v : List Lexeme} {t : AstTerm} → Atom u v t
      → (q : State) (f : Front) → front_at q ≡ Some f → (l : Latest) × (atom_of l ≡ t) × Goes q u (state.Have f l (stack_at q)) v
  atom_goes (simple p) q f i = let on = simple_goes p q f i in (on.0, on.1, on.3)
  atom_goes (literal_of n r) q f i = (latest.Plain (literal_term n r), refl, one_step (ap (λ y. atom y (latest.Plain (literal_term n r)) (stack_at q)) i))
  atom_goes (empty_list o r) q f i = (latest.Plain (term.List o [] None), refl, steps (ap (λ y. opened_list y o (stack_at q)) i) (one_step refl))
  atom_goes (list_of {ts} o r p) q f i =
      let on = elements_go p f o [] (stack_at q) in (
        latest.Plain (term.List o ts None),
        refl,
        steps (ap (λ y. opened_list y o (stack_at q)) i) (and_goes on.4 (one_step (closing_settled on.0 Square _ on.5 ∙ ap (λ y. Some (state.Have f (latest.Plain (term.List o y None)) (stack_at q))) on.3))),
      )
  atom_goes (list_with_tail {t} {ts} o b r p c) q f i =
      let on = elements_go p f o [] (stack_at q) in
      let by = phrase_goes c (frame.Tail f o ts ∷ stack_at q) (omega arith) refl in (
        latest.Plain (term.List o ts (Some t)),
        refl,
        steps (ap (λ y. opened_list y o (stack_at q)) i) (and_goes on.4 (steps (closing_settled on.0 Bar _ on.5 ∙ ap (λ y. Some (state.Want (frame.Tail f o y ∷ stack_at q))) on.3) (and_goes by.1 (one_step (closing_settled by.0 Square _ by.2.settled))))),
      )

  pub elements_go : {u v : List Lexeme} {ts : List AstTerm} → Elements u v ts → (f : Front) (o : Place) (es : List AstTerm) (s : List Frame)
      → (z : State) × (t : AstTerm) × (fs : List AstTerm) × (fs ++ t ∷ [] ≡ es ++ ts) × Goes (state.Want (frame.List f o es ∷ s)) u z v × (settled_at z ≡ Some (t, frame.List f o fs ∷ s))
  elements_go (last_element {t} p) f o es s = let on = phrase_goes p (frame.List f o es ∷ s) (omega arith) refl in (on.0, t, es, refl, on.1, on.2.settled)
  elements_go (element_and {t} {ts} c p ps) f o es s =
      let on = phrase_goes p (frame.List f o es ∷ s) (omega arith) refl in
      let by = elements_go ps f o (es ++ t ∷ []) s in
      (by.0, by.1, by.2, by.3 ∙ append_assoc es (t ∷ []) ts, and_goes on.1 (steps (on.2.infix_behind tt Comma c (frame.List f o (es ++ t ∷ []) ∷ s) refl) by.4), by.5)

  pub atoms_go : {u v : List Lexeme} {ts : List AstTerm} → Atoms u v ts → (q : State) (h : AstTerm) (pre : List AstTerm) → front_at q ≡ Some (front.Applied h pre)
      → (z : State) × (front_at z ≡ Some (front.Applied h (pre ++ ts))) × (stack_at z ≡ stack_at q) × Goes q u z v
  atoms_go no_atom q h pre i = (q, rw append-nil i, refl, stays)
  atoms_go (atom_and {t} {ts} p ps) q h pre i =
      let on = atom_goes p q (front.Applied h pre) i in
      let by = atoms_go ps (state.Have (front.Applied h pre) on.0 (stack_at q)) h (pre ++ t ∷ []) (ap (λ y. Some (front.Applied h (pre ++ y ∷ []))) on.1) in
      (by.0, by.1 ∙ ap (λ y. Some (front.Applied h y)) (append_assoc pre (t ∷ []) ts), by.2, and_goes on.2 by.3)

-- In the state z a test is read as t over its frame.
pub record ReadsTest (t : AstTerm) (s : List Frame) (z : State) : Type 0 where
  pub settled : settled_at z ≡ Some (settle t (frame.Test ∷ s))
  pub stack : stack_at z ≡ frame.Test ∷ s

test_arguments : {z : State} {h t : AstTerm} {ts : List AstTerm} (s : List Frame) → BehindArguments h t ts z → stack_at z ≡ frame.Test ∷ s → ReadsTest (term.App h (t ∷ ts)) s z
test_arguments {h} {t} {ts} s b i = record { settled = (reads_applied b).settled ∙ ap (λ y. Some (settle (term.App h (t ∷ ts)) y)) i; stack = i }

-- A closed phrase of the highest level is read as a test.
pub test_goes : {k : ℕ} {h : Shape} {u v : List Lexeme} {t : AstTerm} → Phrase k h u v t → 9 ≤ k → IsClosed h → (s : List Frame) → (z : State) × Goes (state.Want (frame.Test ∷ s)) u z v × ReadsTest t s z
test_goes (tighter {k} le p) w i s = test_goes p (omega (arith, le, w)) i s
test_goes (infix_of o r p q) w i s = absurd (omega (arith, w, level_eight o))
test_goes (alone p) w i s =
    let on = atom_goes p (state.Want (frame.Test ∷ s)) front.Nothing refl in
    (state.Have front.Nothing on.0 (frame.Test ∷ s), on.2, record { settled = ap (λ y. Some (y, frame.Test ∷ s)) on.1; stack = refl })
test_goes (applied {h} {t} {ts} p q) w i s =
    let on = simple_goes p (state.Want (frame.Test ∷ s)) front.Nothing refl in
    let by = atoms_go q (state.Have front.Nothing on.0 (frame.Test ∷ s)) h [] (front_head on.0 on.2 ∙ ap (λ y. Some (front.Applied y [])) on.1) in
    (by.0, and_goes on.3 by.3, test_arguments s (behind_arguments by.0 h t ts by.1) by.2)
test_goes (quantifier_of q r p) w i s =
    let on = atom_goes p (state.Quantifier q r (frame.Test ∷ s)) (front.Quantifier q r) refl in
    (state.Have (front.Quantifier q r) on.0 (frame.Test ∷ s), steps refl on.2, record { settled = ap (λ y. Some (term.Quant q r y, frame.Test ∷ s)) on.1; stack = refl })
test_goes (applied_binder p q c) w i s = elim i [ ]
test_goes (binder p) w i s = elim i [ ]
test_goes (quantifier_body q r l ws p) w i s = elim i [ ]
