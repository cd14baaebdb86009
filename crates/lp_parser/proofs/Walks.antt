-- Machines that go over lexemes.
use Rattle.std.proofs.Common.{◌≡◌, List, ◌∷◌, ◌++◌, Option, Some}
use Rattle.lp_parser.specs.declared.lexeme.Lexeme.{Lexeme}
use Rattle.lp_parser.specs.declared.item_state.Moved.{Moved}
use Rattle.lp_parser.specs.declared.item_state.Moved.TheVariants.{To, Done}

-- From q the machine f comes over the lexemes u to z, with v left.
pub data Steps {S : Type 0} (f : S → Lexeme → Option S) : S → List Lexeme → S → List Lexeme → Type 0 where
  stays : {q : S} {u : List Lexeme} → Steps f q u q u
  steps : {q p z : S} {c : Lexeme} {u v : List Lexeme} → f q c ≡ Some p → Steps f p u z v → Steps f q (c ∷ u) z v

pub and_steps : {S : Type 0} {f : S → Lexeme → Option S} {q p z : S} {u v w : List Lexeme} → Steps f q u p v → Steps f p v z w → Steps f q u z w
and_steps stays h = h
and_steps (steps e g) h = steps e (and_steps g h)

-- From s over the lexemes u to z within one phrase, with v left.
pub data Moves {S A : Type 0} (f : S → Lexeme → Option (Moved S A)) : S → List Lexeme → S → List Lexeme → Type 0 where
  rests : {s : S} {u : List Lexeme} → Moves f s u s u
  moves : {s r z : S} {c : Lexeme} {u v : List Lexeme} → f s c ≡ Some (To r) → Moves f r u z v → Moves f s (c ∷ u) z v

-- .. to the end of the phrase.
pub data Ends {S A : Type 0} (f : S → Lexeme → Option (Moved S A)) : S → List Lexeme → A → List Lexeme → Type 0 where
  ends : {s z : S} {c : Lexeme} {u v : List Lexeme} {a : A} → Moves f s u z (c ∷ v) → f z c ≡ Some (Done a) → Ends f s u a v

pub and_moves : {S A : Type 0} {f : S → Lexeme → Option (Moved S A)} {s r z : S} {u v w : List Lexeme} → Moves f s u r v → Moves f r v z w → Moves f s u z w
and_moves rests h = h
and_moves (moves e g) h = moves e (and_moves g h)

pub one_move : {S A : Type 0} {f : S → Lexeme → Option (Moved S A)} {s r : S} {c : Lexeme} {u : List Lexeme} → f s c ≡ Some (To r) → Moves f s (c ∷ u) r u
one_move e = moves e rests

pub and_ends : {S A : Type 0} {f : S → Lexeme → Option (Moved S A)} {s r : S} {u v w : List Lexeme} {a : A} → Moves f s u r v → Ends f r v a w → Ends f s u a w
and_ends m (ends n e) = ends (and_moves m n) e

pub moves_first : {S A : Type 0} {f : S → Lexeme → Option (Moved S A)} {s r : S} {c : Lexeme} {u v : List Lexeme} {a : A} → f s c ≡ Some (To r) → Ends f r u a v → Ends f s (c ∷ u) a v
moves_first e m = and_ends (one_move e) m

-- A machine within another goes as that one does.
pub steps_within : {S T A : Type 0} {f : S → Lexeme → Option S} {g : T → Lexeme → Option (Moved T A)} (in_it : S → T)
    → ((q z : S) (c : Lexeme) → f q c ≡ Some z → g (in_it q) c ≡ Some (To (in_it z)))
    → {q z : S} {u v : List Lexeme} → Steps f q u z v → Moves g (in_it q) u (in_it z) v
steps_within in_it k stays = rests
steps_within in_it k (steps {q} {p} {c} e m) = moves (k q p c e) (steps_within in_it k m)

pub moves_within : {S T A B : Type 0} {f : S → Lexeme → Option (Moved S A)} {g : T → Lexeme → Option (Moved T B)} (in_it : S → T)
    → ((q z : S) (c : Lexeme) → f q c ≡ Some (To z) → g (in_it q) c ≡ Some (To (in_it z)))
    → {q z : S} {u v : List Lexeme} → Moves f q u z v → Moves g (in_it q) u (in_it z) v
moves_within in_it k rests = rests
moves_within in_it k (moves {s} {r} {c} e m) = moves (k s r c e) (moves_within in_it k m)

-- What holds where a lexeme leads: what holds of the state, or of what is read whole.
pub data AtMoved {S A : Type 0} (at : S → List Lexeme → Type 0) (is : A → List Lexeme → Type 0) : Moved S A → List Lexeme → Type 0 where
  goes_to : {s : S} {u : List Lexeme} → at s u → AtMoved at is (To s) u
  is_done : {a : A} {u : List Lexeme} → is a u → AtMoved at is (Done a) u

-- A way is the same, whatever follows.
pub moves_more : {S A : Type 0} {f : S → Lexeme → Option (Moved S A)} {s z : S} {u w : List Lexeme} → Moves f s u z w → (v : List Lexeme) → Moves f s (u ++ v) z (w ++ v)
moves_more rests v = rests
moves_more (moves e m) v = moves e (moves_more m v)

pub ends_more : {S A : Type 0} {f : S → Lexeme → Option (Moved S A)} {s : S} {u w : List Lexeme} {a : A} → Ends f s u a w → (v : List Lexeme) → Ends f s (u ++ v) a (w ++ v)
ends_more (ends m e) v = ends (moves_more m v) e
