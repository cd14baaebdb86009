-- The machine of types reads exactly the types, and each of its states has a completion.
use Rattle.std.proofs.Common.{◌≡◌, ℕ, List, [], ◌∷◌, ◌++◌, refl, ap, subst, append_assoc, append-nil, Some}
use Rattle.std.proofs.lemmas.Option.{same_Some}
use Rattle.lp_parser.specs.declared.ast.Place.{Place}
use Rattle.lp_parser.specs.declared.ast.WordKind.{WordKind}
use Rattle.lp_parser.specs.declared.ast.WordKind.TheVariants.{Name, Var, Hole}
use Rattle.lp_parser.specs.declared.ast.Word.{Word}
use Rattle.lp_parser.specs.declared.ast.AstType.{AstType}
use Rattle.lp_parser.specs.declared.ast.AstType.TheVariants as type
use Rattle.lp_parser.specs.declared.lexeme.Closer.{Closer}
use Rattle.lp_parser.specs.declared.lexeme.Closer.TheVariants.{Round}
use Rattle.lp_parser.specs.declared.lexeme.Mark.{Mark}
use Rattle.lp_parser.specs.declared.lexeme.Mark.TheVariants as mark
use Rattle.lp_parser.specs.declared.lexeme.Lexeme.{Lexeme}
use Rattle.lp_parser.specs.declared.lexeme.Lexeme.TheVariants as lexeme
use Rattle.lp_parser.specs.declared.item_state.TypeFrame.{TypeFrame}
use Rattle.lp_parser.specs.declared.item_state.TypeFrame.TheVariants as frame
use Rattle.lp_parser.specs.declared.item_state.TypeFront.{TypeFront}
use Rattle.lp_parser.specs.declared.item_state.TypeFront.TheVariants.{Named, Whole}
use Rattle.lp_parser.specs.declared.item_state.TypeState.{TypeState}
use Rattle.lp_parser.specs.declared.item_state.TypeState.TheVariants.{Want, Have}
use Rattle.lp_parser.specs.Types.{TypeWord, type_name, type_variable, TypeExp, no_arrow, arrow, TypeApp, named, app_in_brackets, TypeAtom, word_alone, atom_in_brackets, TypeAtoms, no_type_atom, type_atom_and}
use Rattle.lp_parser.specs.inside.TypeMachine.{type_word, type_of, type_settle, type_settled, type_close, type_closed, type_closing, with_type_word, type_worded, type_opened, type_arrow, type_closer, type_marked, type_step, type_whole}
use Rattle.lp_parser.proofs.Walks.{Steps, stays, steps, and_steps}

-- the machine's way
abbrev Goes : TypeState → List Lexeme → TypeState → List Lexeme → Type 0
Goes q u z v = Steps type_step q u z v

one : {q z : TypeState} {c : Lexeme} {u : List Lexeme} → type_step q c ≡ Some z → Goes q (c ∷ u) z u
one e = steps e stays

closing_settled : (z : TypeState) (p : AstType × List TypeFrame) → type_settled z ≡ Some p → type_closing z ≡ type_closed p
closing_settled (Want s) p e = absurd cc
closing_settled (Have f s) p e = ap type_closed (same_Some _ _ e)

word_goes : {u v : List Lexeme} {w : Word} → TypeWord u v w → (q z : TypeState) → with_type_word q w ≡ Some z → Goes q u z v
word_goes (type_name x p) q z e = one e
word_goes (type_variable x p) q z e = one e

mutual
  pub type_goes : {u v : List Lexeme} {t : AstType} → TypeExp u v t
      → (s : List TypeFrame) → (z : TypeState) × Goes (Want s) u z v × (type_settled z ≡ Some (type_settle t s))
  type_goes (no_arrow a) s = let on = app_goes a s in (Have on.0 s, on.2, ap (λ t. Some (type_settle t s)) on.1)
  type_goes (arrow {a} {b} p x y) s =
      let on = app_goes x s in
      let by = type_goes y (frame.Arrow a ∷ s) in
      (by.0, and_steps on.2 (steps (ap (λ t. Some (Want (frame.Arrow t ∷ s))) on.1) by.1), by.2)

  app_goes : {u v : List Lexeme} {t : AstType} → TypeApp u v t
      → (s : List TypeFrame) → (f : TypeFront) × (type_of f ≡ t) × Goes (Want s) u (Have f s) v
  app_goes (named {x} {ts} w a) s = (Named x ts, refl, and_steps (word_goes w (Want s) (Have (Named x []) s) refl) (atoms_go a x [] s))
  app_goes (app_in_brackets {t} p q x) s =
      let on = type_goes x (frame.Group ∷ s) in
      (Whole t, refl, steps refl (and_steps on.1 (one (closing_settled on.0 (t, frame.Group ∷ s) on.2))))

  atom_goes : {u v : List Lexeme} {t : AstType} → TypeAtom u v t
      → (h : Word) (pre : List AstType) (s : List TypeFrame) → Goes (Have (Named h pre) s) u (Have (Named h (pre ++ t ∷ [])) s) v
  atom_goes (word_alone {x} w) h pre s = word_goes w (Have (Named h pre) s) (Have (Named h (pre ++ type.Named x [] ∷ [])) s) refl
  atom_goes (atom_in_brackets {t} p q x) h pre s =
      let on = type_goes x (frame.Argument h pre ∷ s) in
      steps refl (and_steps on.1 (one (closing_settled on.0 (t, frame.Argument h pre ∷ s) on.2)))

  atoms_go : {u v : List Lexeme} {ts : List AstType} → TypeAtoms u v ts
      → (h : Word) (pre : List AstType) (s : List TypeFrame) → Goes (Have (Named h pre) s) u (Have (Named h (pre ++ ts)) s) v
  atoms_go no_type_atom h pre s = rw append-nil stays
  atoms_go {u} {v} (type_atom_and {t} {ts} a as') h pre s =
      subst (λ y. Goes (Have (Named h pre) s) u (Have (Named h y) s) v) (append_assoc pre (t ∷ []) ts)
      (and_steps (atom_goes a h pre s) (atoms_go as' h (pre ++ t ∷ []) s))

-- the lexemes all are read on this stack up to these lexemes
pub data Reading (all : List Lexeme) : List TypeFrame → List Lexeme → Type 0 where
  start : Reading all [] all
  left_of : {s : List TypeFrame} {u v : List Lexeme} {a : AstType} (p : Place) → Reading all s u → TypeApp u (lexeme.Mark mark.Arrow p ∷ v) a → Reading all (frame.Arrow a ∷ s) v
  in_group : {s : List TypeFrame} {v : List Lexeme} (p : Place) → Reading all s (lexeme.OpenRound p ∷ v) → Reading all (frame.Group ∷ s) v
  in_argument : {s : List TypeFrame} {u v x : List Lexeme} {w : Word} {ts : List AstType} (p : Place)
      → Reading all s u → TypeWord u v w → TypeAtoms v (lexeme.OpenRound p ∷ x) ts → Reading all (frame.Argument w ts ∷ s) x

pub data IsFront : TypeFront → List Lexeme → List Lexeme → Type 0 where
  is_named : {u v x : List Lexeme} {w : Word} {ts : List AstType} → TypeWord u v w → TypeAtoms v x ts → IsFront (Named w ts) u x
  is_whole : {u v : List Lexeme} {t : AstType} → TypeApp u v t → IsFront (Whole t) u v

-- the lexemes all are read in this state up to these lexemes
pub data TypeHolds (all : List Lexeme) : TypeState → List Lexeme → Type 0 where
  at_want : {s : List TypeFrame} {v : List Lexeme} → Reading all s v → TypeHolds all (Want s) v
  at_have : {s : List TypeFrame} {u v : List Lexeme} {f : TypeFront} → Reading all s u → IsFront f u v → TypeHolds all (Have f s) v

pub type_begins : (all : List Lexeme) → TypeHolds all (Want []) all
type_begins all = at_want start

app_of : {f : TypeFront} {u v : List Lexeme} → IsFront f u v → TypeApp u v (type_of f)
app_of (is_named w a) = named w a
app_of (is_whole a) = a

atoms_snoc : {u v w : List Lexeme} {ts : List AstType} {t : AstType} → TypeAtoms u v ts → TypeAtom v w t → TypeAtoms u w (ts ++ t ∷ [])
atoms_snoc no_type_atom a = type_atom_and a no_type_atom
atoms_snoc (type_atom_and b bs) a = type_atom_and b (atoms_snoc bs a)

-- the type that is read where all arrows up to a bracket end
data Settled (all : List Lexeme) (v : List Lexeme) : AstType × List TypeFrame → Type 0 where
  settled : {t : AstType} {s : List TypeFrame} {u : List Lexeme} → Reading all s u → TypeExp u v t → Settled all v (t, s)

settle_reads : {all u : List Lexeme} {s : List TypeFrame} → Reading all s u → (v : List Lexeme) (t : AstType) → TypeExp u v t → Settled all v (type_settle t s)
settle_reads start v t x = settled start x
settle_reads (left_of {a} p r l) v t x = settle_reads r v (type.Arrow a t) (arrow p l x)
settle_reads (in_group p r) v t x = settled (in_group p r) x
settle_reads (in_argument p r w a) v t x = settled (in_argument p r w a) x

close_reads : {all u v : List Lexeme} {s : List TypeFrame} {t : AstType} (q : Place) → Reading all s u → TypeExp u (lexeme.Closer Round q ∷ v) t
    → (z : TypeState) → type_close t s ≡ Some z → TypeHolds all z v
close_reads {all} {v} q (in_group p r) x z e = subst (λ y. TypeHolds all y v) (same_Some _ _ e) (at_have r (is_whole (app_in_brackets p q x)))
close_reads {all} {v} q (in_argument p r w a) x z e = subst (λ y. TypeHolds all y v) (same_Some _ _ e) (at_have r (is_named w (atoms_snoc a (atom_in_brackets p q x))))
close_reads q start x z e = absurd cc
close_reads q (left_of p r l) x z e = absurd cc

closed_reads : {all v : List Lexeme} {p : AstType × List TypeFrame} (q : Place) → Settled all (lexeme.Closer Round q ∷ v) p → (z : TypeState) → type_closed p ≡ Some z → TypeHolds all z v
closed_reads q (settled r x) z e = close_reads q r x z e

word_reads : {all u v : List Lexeme} {q : TypeState} {w : Word} → TypeHolds all q u → TypeWord u v w → (z : TypeState) → with_type_word q w ≡ Some z → TypeHolds all z v
word_reads {all} {v} (at_want r) x z e = subst (λ y. TypeHolds all y v) (same_Some _ _ e) (at_have r (is_named x no_type_atom))
word_reads {all} {v} (at_have r (is_named h a)) x z e = subst (λ y. TypeHolds all y v) (same_Some _ _ e) (at_have r (is_named h (atoms_snoc a (word_alone x))))
word_reads (at_have r (is_whole a)) x z e = absurd cc

worded_reads : {all v : List Lexeme} {q : TypeState} (k : WordKind) (x : List ℕ) (p : Place) → TypeHolds all q (lexeme.Word k x p ∷ v)
    → (z : TypeState) → type_worded q (type_word k x p) ≡ Some z → TypeHolds all z v
worded_reads Name x p h z e = word_reads h (type_name x p) z e
worded_reads Var x p h z e = word_reads h (type_variable x p) z e
worded_reads Hole x p h z e = absurd cc

opened_reads : {all v : List Lexeme} {q : TypeState} (p : Place) → TypeHolds all q (lexeme.OpenRound p ∷ v) → (z : TypeState) → type_opened q ≡ Some z → TypeHolds all z v
opened_reads {all} {v} p (at_want r) z e = subst (λ y. TypeHolds all y v) (same_Some _ _ e) (at_want (in_group p r))
opened_reads {all} {v} p (at_have r (is_named h a)) z e = subst (λ y. TypeHolds all y v) (same_Some _ _ e) (at_want (in_argument p r h a))
opened_reads p (at_have r (is_whole a)) z e = absurd cc

arrow_reads : {all v : List Lexeme} {q : TypeState} (p : Place) → TypeHolds all q (lexeme.Mark mark.Arrow p ∷ v) → (z : TypeState) → type_arrow q ≡ Some z → TypeHolds all z v
arrow_reads p (at_want r) z e = absurd cc
arrow_reads {all} {v} p (at_have r f) z e = subst (λ y. TypeHolds all y v) (same_Some _ _ e) (at_want (left_of p r (app_of f)))

closing_reads : {all v : List Lexeme} {q : TypeState} (p : Place) → TypeHolds all q (lexeme.Closer Round p ∷ v) → (z : TypeState) → type_closing q ≡ Some z → TypeHolds all z v
closing_reads p (at_want r) z e = absurd cc
closing_reads {v} p (at_have {f} r i) z e = closed_reads p (settle_reads r (lexeme.Closer Round p ∷ v) (type_of f) (no_arrow (app_of i))) z e

closer_reads : {all v : List Lexeme} {q : TypeState} (c : Closer) (p : Place) → TypeHolds all q (lexeme.Closer c p ∷ v) → (z : TypeState) → type_closer q c ≡ Some z → TypeHolds all z v
closer_reads Round p h z e = closing_reads p h z e
closer_reads c p h z e = absurd cc

marked_reads : {all v : List Lexeme} {q : TypeState} (m : Mark) (p : Place) → TypeHolds all q (lexeme.Mark m p ∷ v) → (z : TypeState) → type_marked q m ≡ Some z → TypeHolds all z v
marked_reads mark.Arrow p h z e = arrow_reads p h z e
marked_reads m p h z e = absurd cc

pub type_step_reads : {all v : List Lexeme} {q : TypeState} (c : Lexeme) → TypeHolds all q (c ∷ v) → (z : TypeState) → type_step q c ≡ Some z → TypeHolds all z v
type_step_reads (lexeme.Word k x p) h z e = worded_reads k x p h z e
type_step_reads (lexeme.OpenRound p) h z e = opened_reads p h z e
type_step_reads (lexeme.Closer c p) h z e = closer_reads c p h z e
type_step_reads (lexeme.Mark m p) h z e = marked_reads m p h z e
type_step_reads c h z e = absurd cc

whole_settled : {all v : List Lexeme} {p : AstType × List TypeFrame} → Settled all v p → (t : AstType) → type_whole (Some p) ≡ Some t → TypeExp all v t
whole_settled {all} {v} (settled start x) t e = subst (TypeExp all v) (same_Some _ _ e) x
whole_settled (settled (left_of p r l) x) t e = absurd cc
whole_settled (settled (in_group p r) x) t e = absurd cc
whole_settled (settled (in_argument p r w a) x) t e = absurd cc

-- A type that may end is one.
pub type_whole_reads : {all v : List Lexeme} {q : TypeState} → TypeHolds all q v → (t : AstType) → type_whole (type_settled q) ≡ Some t → TypeExp all v t
type_whole_reads (at_want r) t e = absurd cc
type_whole_reads {v} (at_have {f} r i) t e = whole_settled (settle_reads r v (type_of f) (no_arrow (app_of i))) t e

-- the brackets that are open
abbrev closers : Place → List TypeFrame → List Lexeme
closers p [] = []
closers p (frame.Arrow a ∷ s) = closers p s
closers p (frame.Group ∷ s) = lexeme.Closer Round p ∷ closers p s
closers p (frame.Argument w ts ∷ s) = lexeme.Closer Round p ∷ closers p s

-- From q the machine comes over the lexemes, whatever follows them, to where the type may end.
abbrev pub TypeCompletes : TypeState → List Lexeme → Type 0
TypeCompletes q u = (z : TypeState) × (t : AstType) × (type_whole (type_settled z) ≡ Some t) × ((v : List Lexeme) → Goes q (u ++ v) z v)

closes : (p : Place) (s : List TypeFrame) (t : AstType) (q : TypeState) → type_settled q ≡ Some (type_settle t s) → TypeCompletes q (closers p s)
closes p [] t q e = (q, t, ap type_whole e, λ v. stays)
closes p (frame.Arrow a ∷ s) t q e = closes p s (type.Arrow a t) q e
closes p (frame.Group ∷ s) t q e =
    let on = closes p s t (Have (Whole t) s) refl in
    (on.0, on.1, on.2, λ v. steps (closing_settled q (t, frame.Group ∷ s) e) (on.3 v))
closes p (frame.Argument w ts ∷ s) t q e =
    let on = closes p s (type.Named w (ts ++ t ∷ [])) (Have (Named w (ts ++ t ∷ [])) s) refl in
    (on.0, on.1, on.2, λ v. steps (closing_settled q (t, frame.Argument w ts ∷ s) e) (on.3 v))

pub type_completes : (p : Place) (q : TypeState) → (u : List Lexeme) × TypeCompletes q u
type_completes p (Want s) =
    let w : Word = record { text = []; place = p } in
    let on = closes p s (type.Named w []) (Have (Named w []) s) refl in
    (lexeme.Word Name [] p ∷ closers p s, (on.0, on.1, on.2, λ v. steps refl (on.3 v)))
type_completes p (Have f s) = (closers p s, closes p s (type_of f) (Have f s) refl)
