-- What the machine reads the grammar accepts.
use Rattle.std.proofs.Common.{◌≡◌, ℕ, ◌≤◌, inl, inr, List, [], ◌∷◌, ◌++◌, refl, sym, ap, subst, append_assoc, arith, Bool, true, Option, Some, None, nat_le}
use Rattle.std.proofs.lemmas.Bool.Decides.{leb_tells}
use Rattle.std.proofs.lemmas.Bool.{leb-true}
use Rattle.std.proofs.lemmas.Option.{cond_some, same_Some}
use Rattle.lp_parser.specs.declared.ast.Place.{Place}
use Rattle.lp_parser.specs.declared.ast.WordKind.{WordKind}
use Rattle.lp_parser.specs.declared.ast.Word.{Word}
use Rattle.lp_parser.specs.declared.ast.Operator.{Operator}
use Rattle.lp_parser.specs.declared.ast.Operator.TheVariants.{Implied, Or, Comma, Implies, Equal, Is, Cons, Plus, Minus, Times}
use Rattle.lp_parser.specs.declared.ast.AstTerm.{AstTerm}
use Rattle.lp_parser.specs.declared.ast.AstTerm.TheVariants as term
use Rattle.lp_parser.specs.declared.lexeme.Closer.{Closer}
use Rattle.lp_parser.specs.declared.lexeme.Closer.TheVariants.{Round, Square, Bar}
use Rattle.lp_parser.specs.declared.lexeme.Lexeme.{Lexeme}
use Rattle.lp_parser.specs.declared.lexeme.Lexeme.TheVariants as lexeme
use Rattle.lp_parser.specs.declared.state.Front.{Front}
use Rattle.lp_parser.specs.declared.state.Front.TheVariants as front
use Rattle.lp_parser.specs.declared.state.Latest.{Latest}
use Rattle.lp_parser.specs.declared.state.Latest.TheVariants as latest
use Rattle.lp_parser.specs.declared.state.Frame.{Frame}
use Rattle.lp_parser.specs.declared.state.Frame.TheVariants as frame
use Rattle.lp_parser.specs.declared.state.State.{State}
use Rattle.lp_parser.specs.declared.state.State.TheVariants as state
use Rattle.lp_parser.specs.Grammar.{level, left_level, right_level, literal_term, Shape, Closed, Open, quantified, Words, last_word, word_and, Phrase, tighter, infix_of, alone, applied, applied_binder, binder, quantifier_of, quantifier_body, binds, Simple, word, group, Atom, simple, literal_of, empty_list, list_of, list_with_tail, Elements, last_element, element_and, Atoms, no_atom, atom_and}
use Rattle.lp_parser.specs.inside.TermMachine.{atom_of, joined, front_after, separated, onto, attach, settle, settled_at, close, closed, closing, close_empty, want, atom, opened, opened_list, front_at, stack_at, may_be_open, second_bound, second_word, worded, body_frame, body, bound, quantifier, infixed, step}
use Rattle.lp_parser.proofs.Levels.{wanted, one_level, level_eight, wanted_nine, may_open}
use Rattle.lp_parser.proofs.TermComplete.{MayBind}

-- the lexemes from u up to v are this front
pub data IsFront : Front → List Lexeme → List Lexeme → Type 0 where
  nothing : {u : List Lexeme} → IsFront front.Nothing u u
  arguments : {u v w : List Lexeme} {h : AstTerm} {ts : List AstTerm} → Simple u v h → Atoms v w ts → IsFront (front.Applied h ts) u w
  quantified_by : {u : List Lexeme} {q : Bool} {p : Place} → IsFront (front.Quantifier q p) (lexeme.Quantifier q p ∷ u) u

-- the lexemes from u up to v are this atom
pub data IsLatest : Latest → List Lexeme → List Lexeme → Type 0 where
  a_word : {k : WordKind} {x : List ℕ} {p : Place} {v : List Lexeme} → IsLatest (latest.Word k x p) (lexeme.Word k x p ∷ v) v
  grouped : {u v : List Lexeme} {t : AstTerm} → Simple u v t → IsLatest (latest.Group t) u v
  plain : {u v : List Lexeme} {t : AstTerm} → Atom u v t → IsLatest (latest.Plain t) u v

-- elements with a comma behind each
pub data BeforeElements : List Lexeme → List Lexeme → List AstTerm → Type 0 where
  no_element : {u : List Lexeme} → BeforeElements u u []
  and_element : {u v w : List Lexeme} {ts : List AstTerm} {t : AstTerm} {c : Place}
      → BeforeElements u v ts → Phrase 4 Closed v (lexeme.Infix Comma c ∷ w) t → BeforeElements u w (ts ++ t ∷ [])

-- Reading all b s u: the text all is read on the stack s, which began as b, up to the lexemes u.
pub data Reading (all : List Lexeme) : List Frame → List Frame → List Lexeme → Type 0 where
  start : Reading all [] [] all
  start_test : Reading all (frame.Test ∷ []) (frame.Test ∷ []) all
  left : {b s : List Frame} {u v : List Lexeme} {a : AstTerm} (o : Operator) (p : Place) → Reading all b s u → wanted s ≤ level o
      → Phrase (left_level o) Closed u (lexeme.Infix o p ∷ v) a → Reading all b (frame.Left o p a ∷ s) v
  in_body : {b s : List Frame} {u v : List Lexeme} {f : Front} {k : WordKind} {x : List ℕ} {p l : Place} → Reading all b s u → may_be_open s ≡ true
      → IsFront f u (lexeme.Word k x p ∷ lexeme.Lambda l ∷ v) → MayBind f → Reading all b (frame.Body f (record { text = x; place = p }) ∷ s) v
  in_quantified : {b s : List Frame} {u v : List Lexeme} {q : Bool} {p l : Place} {xs : List Word} → Reading all b s (lexeme.Quantifier q p ∷ u) → may_be_open s ≡ true
      → Words u (lexeme.Lambda l ∷ v) xs → Reading all b (frame.Quantified q p xs ∷ s) v
  in_group : {b s : List Frame} {u v : List Lexeme} {f : Front} {p : Place} → Reading all b s u → IsFront f u (lexeme.OpenRound p ∷ v) → Reading all b (frame.Group f ∷ s) v
  in_list : {b s : List Frame} {u v w : List Lexeme} {f : Front} {p : Place} {ts : List AstTerm} → Reading all b s u → IsFront f u (lexeme.OpenSquare p ∷ v)
      → BeforeElements v w ts → Reading all b (frame.List f p ts ∷ s) w
  in_tail : {b s : List Frame} {u v w : List Lexeme} {f : Front} {p c : Place} {ts : List AstTerm} → Reading all b s u → IsFront f u (lexeme.OpenSquare p ∷ v)
      → Elements v (lexeme.Closer Bar c ∷ w) ts → Reading all b (frame.Tail f p ts ∷ s) w

-- Holds all b q v: the text all is read in the state q, whose stack began as b, up to the lexemes v.
pub data Holds (all : List Lexeme) : List Frame → State → List Lexeme → Type 0 where
  at_want : {b s : List Frame} {v : List Lexeme} → Reading all b s v → Holds all b (state.Want s) v
  at_quantifier : {b s : List Frame} {v : List Lexeme} {q : Bool} {p : Place} → Reading all b s (lexeme.Quantifier q p ∷ v) → Holds all b (state.Quantifier q p s) v
  at_have : {b s : List Frame} {u v w : List Lexeme} {f : Front} {l : Latest} → Reading all b s u → IsFront f u v → IsLatest l v w → Holds all b (state.Have f l s) w
  at_words : {b s : List Frame} {u v : List Lexeme} {q : Bool} {p : Place} {xs : List Word} {x : Word} → Reading all b s (lexeme.Quantifier q p ∷ u) → may_be_open s ≡ true
      → Words u v (xs ++ x ∷ []) → Holds all b (state.Words q p xs x s) v

snoc_some : (ts : List AstTerm) (t : AstTerm) → ts ++ t ∷ [] ≡ [] → ⊥
snoc_some [] t e = cc
snoc_some (a ∷ ts) t e = cc

pub latest_atom : {l : Latest} {u v : List Lexeme} → IsLatest l u v → Atom u v (atom_of l)
latest_atom (a_word {k} {x} {p}) = simple (word k x p)
latest_atom (grouped p) = simple p
latest_atom (plain p) = p

atoms_snoc : {u v w : List Lexeme} {ts : List AstTerm} {t : AstTerm} → Atoms u v ts → Atom v w t → Atoms u w (ts ++ t ∷ [])
atoms_snoc no_atom p = atom_and p no_atom
atoms_snoc (atom_and q qs) p = atom_and q (atoms_snoc qs p)

applied_to : {u v w x : List Lexeme} {h t : AstTerm} {ts : List AstTerm} → Simple u v h → Atoms v w ts → Atom w x t → Phrase 9 Closed u x (term.App h (ts ++ t ∷ []))
applied_to p no_atom q = applied p (atom_and q no_atom)
applied_to p (atom_and r rs) q = applied p (atom_and r (atoms_snoc rs q))

pub is_joined : {f : Front} {l : Latest} {u v w : List Lexeme} → IsFront f u v → IsLatest l v w → Phrase 9 Closed u w (joined f (atom_of l))
is_joined nothing p = alone (latest_atom p)
is_joined (arguments h ps) p = applied_to h ps (latest_atom p)
is_joined (quantified_by {q} {p = r}) p = quantifier_of q r (latest_atom p)

is_bound : {f : Front} {u v w : List Lexeme} {t : AstTerm} {h : Shape} {k : WordKind} {x : List ℕ} {p l : Place}
    → IsFront f u (lexeme.Word k x p ∷ lexeme.Lambda l ∷ v) → MayBind f → Phrase 1 h v w t → Phrase 9 Open u w (joined f (term.Bind x p t))
is_bound {k} {x} {p = r} {l} nothing m p = binder (binds k x r l p)
is_bound {k} {x} {p = r} {l} (arguments h ps) m p = applied_binder h ps (binds k x r l p)
is_bound quantified_by m p = elim m [ ]

is_front_after : {l : Latest} {f f' : Front} {u v w : List Lexeme} → IsFront f u v → IsLatest l v w → front_after f l ≡ Some f' → IsFront f' u w
is_front_after {f'} {u} {w} nothing (a_word {k} {x} {p}) e = subst (λ z. IsFront z u w) (same_Some _ _ e) (arguments (word k x p) no_atom)
is_front_after {f'} {u} {w} nothing (grouped p) e = subst (λ z. IsFront z u w) (same_Some _ _ e) (arguments p no_atom)
is_front_after nothing (plain p) e = absurd cc
is_front_after {f'} {u} {w} (arguments h ps) q e = subst (λ z. IsFront z u w) (same_Some _ _ e) (arguments h (atoms_snoc ps (latest_atom q)))
is_front_after quantified_by q e = absurd cc

words_snoc : {u v : List Lexeme} {xs : List Word} {k : WordKind} {y : List ℕ} {p : Place} → Words u (lexeme.Word k y p ∷ v) xs → Words u v (xs ++ record { text = y; place = p } ∷ [])
words_snoc {k} {y} {p} (last_word j x r) = word_and j x r (last_word k y p)
words_snoc (word_and j x r w) = word_and j x r (words_snoc w)

with_elements : {u v w : List Lexeme} {ts us : List AstTerm} → BeforeElements u v ts → Elements v w us → Elements u w (ts ++ us)
with_elements no_element p = p
with_elements {u} {w} {us} (and_element {ts} {t} {c} q p) ps = subst (λ z. Elements u w z) (sym (append_assoc ts (t ∷ []) us)) (with_elements q (element_and c p ps))

none_before : {u v : List Lexeme} {ts : List AstTerm} → BeforeElements u v ts → ts ≡ [] → u ≡ v
none_before no_element e = refl
none_before (and_element {ts} {t} q p) e = absurd (snoc_some ts t e)

onto_reads : {all u v : List Lexeme} {b s s' : List Frame} {t : AstTerm} (o : Operator) (p : Place) (k : ℕ) → Reading all b s u → wanted s ≤ level o
    → Phrase k Closed u (lexeme.Infix o p ∷ v) t → onto o p k t s ≡ Some s' → Reading all b s' v
onto_reads {all} {v} {b} {s} {s'} {t} o p k r l a e =
    let both = cond_some (nat_le (left_level o) k) (frame.Left o p t ∷ s) s' e in
    subst (λ z. Reading all b z v) both.1 (left o p r l (tighter (leb-true (left_level o) k both.0) a))

separated_reads : {all u v w x : List Lexeme} {b s s' : List Frame} {t : AstTerm} {f : Front} {q : Place} {ts : List AstTerm} (o : Operator) (c : Place) (k : ℕ) → 4 ≤ k
    → Reading all b s u → IsFront f u (lexeme.OpenSquare q ∷ v) → BeforeElements v w ts
    → Phrase k Closed w (lexeme.Infix o c ∷ x) t → separated o t f q ts s ≡ Some s' → Reading all b s' x
separated_reads {all} {x} {b} Comma c k le r i es p e = subst (λ z. Reading all b z x) (same_Some _ _ e) (in_list r i (and_element es (tighter le p)))
separated_reads Implied c k le r i es p e = absurd cc
separated_reads Or c k le r i es p e = absurd cc
separated_reads Implies c k le r i es p e = absurd cc
separated_reads Equal c k le r i es p e = absurd cc
separated_reads Is c k le r i es p e = absurd cc
separated_reads Cons c k le r i es p e = absurd cc
separated_reads Plus c k le r i es p e = absurd cc
separated_reads Minus c k le r i es p e = absurd cc
separated_reads Times c k le r i es p e = absurd cc

attach_reads : {all u : List Lexeme} {b s : List Frame} → Reading all b s u
    → (v : List Lexeme) (s' : List Frame) (t : AstTerm) (o : Operator) (c : Place) (k : ℕ) → wanted s ≤ k
    → Phrase k Closed u (lexeme.Infix o c ∷ v) t → attach o c k t s ≡ Some s' → Reading all b s' v
attach_reads start v s' t o c k w p e = onto_reads o c k start (one_level o) p e
attach_reads start_test v s' t o c k w p e = absurd cc
attach_reads (in_group r f) v s' t o c k w p e = onto_reads o c k (in_group r f) (one_level o) p e
attach_reads (in_body r n f m) v s' t o c k w p e = onto_reads o c k (in_body r n f m) (one_level o) p e
attach_reads (in_quantified r n ws) v s' t o c k w p e = onto_reads o c k (in_quantified r n ws) (one_level o) p e
attach_reads (left {s} {a} q d r l pa) v s' t o c k w p e =
    elim (leb_tells (right_level q) (level o)) [
      | inl tells ↦ onto_reads o c k (left q d r l pa) tells.1 p (rw tells.0 at e)
      | inr tells ↦ attach_reads r v s' (term.Op q d a t) o c (level q) l (infix_of q d pa (tighter w p)) (rw tells.0 at e)
    ]
attach_reads (in_list r i es) v s' t o c k w p e =
    elim (leb_tells 4 (level o)) [
      | inl tells ↦ onto_reads o c k (in_list r i es) tells.1 p (rw tells.0 at e)
      | inr tells ↦ separated_reads o c k w r i es p (rw tells.0 at e)
    ]
attach_reads (in_tail r i es) v s' t o c k w p e =
    elim (leb_tells 4 (level o)) [
      | inl tells ↦ onto_reads o c k (in_tail r i es) tells.1 p (rw tells.0 at e)
      | inr tells ↦ absurd (let bad : None ≡ Some s' = rw tells.0 at e in cc)
    ]

-- a phrase of this shape may stand on the stack
abbrev pub Fits : Shape → List Frame → Type 0
Fits Closed s = Unit {0}
Fits Open s = may_be_open s ≡ true

fits_below : (h : Shape) (s : List Frame) → may_be_open s ≡ true → Fits h s
fits_below Closed s m = tt
fits_below Open s m = m

-- the whole phrase that is read when all phrases up to a bracket end
pub data Settled (all : List Lexeme) (v : List Lexeme) (b : List Frame) : AstTerm × List Frame → Type 0 where
  settled : {t : AstTerm} {s : List Frame} {u : List Lexeme} {h : Shape} → Reading all b s u → Phrase (wanted s) h u v t → Fits h s → Settled all v b (t, s)

pub settle_reads : {all u : List Lexeme} {b s : List Frame} → Reading all b s u
    → (v : List Lexeme) (t : AstTerm) (h : Shape) (k : ℕ) → wanted s ≤ k → Fits h s → Phrase k h u v t → Settled all v b (settle t s)
settle_reads start v t h k w m p = settled start (tighter w p) m
settle_reads start_test v t h k w m p = settled start_test (tighter w p) m
settle_reads (left {s} {a} o c r l pa) v t h k w m p =
    settle_reads r v (term.Op o c a t) h (level o) l (fits_below h s (may_open s (omega (arith, l, level_eight o)))) (infix_of o c pa (tighter w p))
settle_reads (in_body {s} {f} {x} {p = c} r n i m) v t h k w d p = settle_reads r v (joined f (term.Bind x c t)) Open 9 (wanted_nine s) n (is_bound i m (tighter w p))
settle_reads (in_quantified {s} {q} {p = c} {l} {xs} r n ws) v t h k w d p = settle_reads r v (quantified q c xs t) Open 9 (wanted_nine s) n (quantifier_body q c l ws (tighter w p))
settle_reads (in_group r i) v t h k w m p = settled (in_group r i) (tighter w p) m
settle_reads (in_list r i es) v t h k w m p = settled (in_list r i es) (tighter w p) m
settle_reads (in_tail r i es) v t h k w m p = settled (in_tail r i es) (tighter w p) m

closed_behind : {all u v : List Lexeme} {b s : List Frame} {t : AstTerm} {h : Shape} (c : Closer) (d : Place) → Reading all b s u → Phrase (wanted s) h u (lexeme.Closer c d ∷ v) t
    → (q : State) → close c t s ≡ Some q → Holds all b q v
closed_behind {all} {v} {b} Round d (in_group {p = o} r i) p q e = subst (λ z. Holds all b z v) (same_Some _ _ e) (at_have r i (grouped (group o d p)))
closed_behind {all} {v} {b} Square d (in_list {p = o} r i es) p q e = subst (λ z. Holds all b z v) (same_Some _ _ e) (at_have r i (plain (list_of o d (with_elements es (last_element p)))))
closed_behind {all} {v} {b} Square d (in_tail {p = o} {c} r i es) p q e = subst (λ z. Holds all b z v) (same_Some _ _ e) (at_have r i (plain (list_with_tail o c d es p)))
closed_behind {all} {v} {b} Bar d (in_list r i es) p q e = subst (λ z. Holds all b z v) (same_Some _ _ e) (at_want (in_tail r i (with_elements es (last_element p))))
closed_behind Round d start p q e = absurd cc
closed_behind Round d start_test p q e = absurd cc
closed_behind Round d (left o g r l pa) p q e = absurd cc
closed_behind Round d (in_body r n i m) p q e = absurd cc
closed_behind Round d (in_quantified r n ws) p q e = absurd cc
closed_behind Round d (in_list r i es) p q e = absurd cc
closed_behind Round d (in_tail r i es) p q e = absurd cc
closed_behind Square d start p q e = absurd cc
closed_behind Square d start_test p q e = absurd cc
closed_behind Square d (left o g r l pa) p q e = absurd cc
closed_behind Square d (in_body r n i m) p q e = absurd cc
closed_behind Square d (in_quantified r n ws) p q e = absurd cc
closed_behind Square d (in_group r i) p q e = absurd cc
closed_behind Bar d start p q e = absurd cc
closed_behind Bar d start_test p q e = absurd cc
closed_behind Bar d (left o g r l pa) p q e = absurd cc
closed_behind Bar d (in_body r n i m) p q e = absurd cc
closed_behind Bar d (in_quantified r n ws) p q e = absurd cc
closed_behind Bar d (in_group r i) p q e = absurd cc
closed_behind Bar d (in_tail r i es) p q e = absurd cc

closed_reads : {all v : List Lexeme} {b : List Frame} {p : AstTerm × List Frame} (c : Closer) (d : Place) → Settled all (lexeme.Closer c d ∷ v) b p → (q : State) → closed c p ≡ Some q → Holds all b q v
closed_reads c d (settled r p m) q e = closed_behind c d r p q e

-- nothing was read where a term's stack is as it began
pub term_bottom : {all u : List Lexeme} {b s : List Frame} → Reading all b s u → b ≡ [] → s ≡ [] → u ≡ all
term_bottom start d e = refl
term_bottom start_test d e = absurd cc
term_bottom (left o g r l pa) d e = absurd cc
term_bottom (in_body r n i m) d e = absurd cc
term_bottom (in_quantified r n ws) d e = absurd cc
term_bottom (in_group r i) d e = absurd cc
term_bottom (in_list r i es) d e = absurd cc
term_bottom (in_tail r i es) d e = absurd cc

-- and where a test's is
pub test_bottom : {all u : List Lexeme} {b s : List Frame} → Reading all b s u → b ≡ frame.Test ∷ [] → s ≡ frame.Test ∷ [] → u ≡ all
test_bottom start d e = absurd cc
test_bottom start_test d e = refl
test_bottom (left o g r l pa) d e = absurd cc
test_bottom (in_body r n i m) d e = absurd cc
test_bottom (in_quantified r n ws) d e = absurd cc
test_bottom (in_group r i) d e = absurd cc
test_bottom (in_list r i es) d e = absurd cc
test_bottom (in_tail r i es) d e = absurd cc

whole_reads : {all v : List Lexeme} {p : AstTerm × List Frame} → Settled all v [] p → (t : AstTerm) → p ≡ (t, []) → (h : Shape) × Phrase 1 h all v t
whole_reads {all} {v} (settled {t = t'} {s} {u} {h} r p m) t e =
    let at_end : s ≡ [] = ap (λ y. y.1) e in
    let same : t' ≡ t = ap (λ y. y.0) e in
    (h, subst (λ z. Phrase 1 h z v t) (term_bottom r refl at_end) (subst (λ z. Phrase 1 h u v z) same (subst (λ z. Phrase (wanted z) h u v t') at_end p)))

closed_in_test : {u v : List Lexeme} {t : AstTerm} (h : Shape) → Fits h (frame.Test ∷ []) → Phrase 9 h u v t → Phrase 9 Closed u v t
closed_in_test Closed m p = p
closed_in_test Open m p = absurd cc

whole_test : {all v : List Lexeme} {p : AstTerm × List Frame} → Settled all v (frame.Test ∷ []) p → (t : AstTerm) → p ≡ (t, frame.Test ∷ []) → Phrase 9 Closed all v t
whole_test {all} {v} (settled {t = t'} {s} {u} {h} r p m) t e =
    let at_end : s ≡ frame.Test ∷ [] = ap (λ y. y.1) e in
    let same : t' ≡ t = ap (λ y. y.0) e in
    closed_in_test h (subst (λ z. Fits h z) at_end m) (subst (λ z. Phrase 9 h z v t) (test_bottom r refl at_end) (subst (λ z. Phrase 9 h u v z) same (subst (λ z. Phrase (wanted z) h u v t') at_end p)))

empty_reads : {all v : List Lexeme} {b s : List Frame} (c : Closer) (d : Place) → Reading all b s (lexeme.Closer c d ∷ v) → (q : State) → close_empty c s ≡ Some q → Holds all b q v
empty_reads {all} {v} {b} Square d (in_list {u} {f} {p = o} {ts = []} r i es) q e =
    subst (λ z. Holds all b z v) (same_Some _ _ e) (at_have r (subst (λ z. IsFront f u (lexeme.OpenSquare o ∷ z)) (none_before es refl) i) (plain (empty_list o d)))
empty_reads Square d (in_list {ts = t ∷ ts} r i es) q e = absurd cc
empty_reads Round d start q e = absurd cc
empty_reads Round d start_test q e = absurd cc
empty_reads Round d (left o g r l pa) q e = absurd cc
empty_reads Round d (in_body r n i m) q e = absurd cc
empty_reads Round d (in_quantified r n ws) q e = absurd cc
empty_reads Round d (in_group r i) q e = absurd cc
empty_reads Round d (in_list r i es) q e = absurd cc
empty_reads Round d (in_tail r i es) q e = absurd cc
empty_reads Square d start q e = absurd cc
empty_reads Square d start_test q e = absurd cc
empty_reads Square d (left o g r l pa) q e = absurd cc
empty_reads Square d (in_body r n i m) q e = absurd cc
empty_reads Square d (in_quantified r n ws) q e = absurd cc
empty_reads Square d (in_group r i) q e = absurd cc
empty_reads Square d (in_tail r i es) q e = absurd cc
empty_reads Bar d start q e = absurd cc
empty_reads Bar d start_test q e = absurd cc
empty_reads Bar d (left o g r l pa) q e = absurd cc
empty_reads Bar d (in_body r n i m) q e = absurd cc
empty_reads Bar d (in_quantified r n ws) q e = absurd cc
empty_reads Bar d (in_group r i) q e = absurd cc
empty_reads Bar d (in_list r i es) q e = absurd cc
empty_reads Bar d (in_tail r i es) q e = absurd cc

pub wanted_reads : {all u : List Lexeme} {b : List Frame} (m : Option (List Frame)) (q : State) → want m ≡ Some q → ((s' : List Frame) → m ≡ Some s' → Reading all b s' u) → Holds all b q u
wanted_reads None q e k = absurd cc
wanted_reads {all} {u} {b} (Some s') q e k = subst (λ z. Holds all b z u) (same_Some _ _ e) (at_want (k s' refl))

-- what is read where the state awaits an atom behind this front
pub front_reads : {all v : List Lexeme} {b : List Frame} {q : State} → Holds all b q v → (f : Front) → front_at q ≡ Some f → (u : List Lexeme) × Reading all b (stack_at q) u × IsFront f u v
front_reads (at_want {v} r) f e = (v, r, subst (λ z. IsFront z v v) (same_Some _ _ e) nothing)
front_reads (at_quantifier {v} {q} {p} r) f e = (lexeme.Quantifier q p ∷ v, r, subst (λ z. IsFront z (lexeme.Quantifier q p ∷ v) v) (same_Some _ _ e) quantified_by)
front_reads (at_have {u} r p l) f e = (u, r, is_front_after p l e)
front_reads (at_words r m w) f e = absurd cc

atom_reads : {all v w : List Lexeme} {b : List Frame} {q : State} → Holds all b q w → (l : Latest) → IsLatest l w v → (m : Option Front) → front_at q ≡ m
    → (q' : State) → atom m l (stack_at q) ≡ Some q' → Holds all b q' v
atom_reads h l i None e q' k = absurd cc
atom_reads {all} {v} {b} h l i (Some f) e q' k =
    let at_front = front_reads h f e in
    subst (λ z. Holds all b z v) (same_Some _ _ k) (at_have at_front.1 at_front.2 i)

opened_reads : {all v : List Lexeme} {b : List Frame} {q : State} (p : Place) → Holds all b q (lexeme.OpenRound p ∷ v) → (m : Option Front) → front_at q ≡ m
    → (q' : State) → opened m (stack_at q) ≡ Some q' → Holds all b q' v
opened_reads p h None e q' k = absurd cc
opened_reads {all} {v} {b} p h (Some f) e q' k =
    let at_front = front_reads h f e in
    subst (λ z. Holds all b z v) (same_Some _ _ k) (at_want (in_group at_front.1 at_front.2))

opened_list_reads : {all v : List Lexeme} {b : List Frame} {q : State} (p : Place) → Holds all b q (lexeme.OpenSquare p ∷ v) → (m : Option Front) → front_at q ≡ m
    → (q' : State) → opened_list m p (stack_at q) ≡ Some q' → Holds all b q' v
opened_list_reads p h None e q' k = absurd cc
opened_list_reads {all} {v} {b} p h (Some f) e q' k =
    let at_front = front_reads h f e in
    subst (λ z. Holds all b z v) (same_Some _ _ k) (at_want (in_list at_front.1 at_front.2 no_element))

second_bound_reads : {all v : List Lexeme} {b s : List Frame} {q : Bool} {p : Place} {j k : WordKind} {y x : List ℕ} {r o : Place}
    → Reading all b s (lexeme.Quantifier q p ∷ lexeme.Word j y r ∷ lexeme.Word k x o ∷ v)
    → (q' : State) → second_bound q p (record { text = y; place = r }) (record { text = x; place = o }) s ≡ Some q' → Holds all b q' v
second_bound_reads {all} {v} {b} {s} {q} {p} {j} {k} {y} {x} {r} {o} h q' e =
    let both = cond_some (may_be_open s) (state.Words q p (record { text = y; place = r } ∷ []) (record { text = x; place = o }) s) q' e in
    subst (λ z. Holds all b z v) both.1 (at_words h both.0 (word_and j y r (last_word k x o)))

second_reads : {all v : List Lexeme} {b s : List Frame} {f : Front} {l : Latest} {u w : List Lexeme} (k : WordKind) (x : List ℕ) (o : Place) → Reading all b s u → IsFront f u w → IsLatest l w (lexeme.Word k x o ∷ v)
    → (q' : State) → second_word f l s k (record { text = x; place = o }) ≡ Some q' → Holds all b q' v
second_reads {l} k x o r nothing i q' e = atom_reads (at_have r nothing i) (latest.Word k x o) a_word (front_after front.Nothing l) refl q' e
second_reads {l} k x o r (arguments {h} {ts} hd ps) i q' e = atom_reads (at_have r (arguments hd ps) i) (latest.Word k x o) a_word (front_after (front.Applied h ts) l) refl q' e
second_reads k x o r quantified_by a_word q' e = second_bound_reads r q' e
second_reads k x o r quantified_by (grouped p) q' e = absurd cc
second_reads k x o r quantified_by (plain p) q' e = absurd cc

worded_reads : {all v : List Lexeme} {b : List Frame} {q : State} (k : WordKind) (x : List ℕ) (o : Place) → Holds all b q (lexeme.Word k x o ∷ v)
    → (q' : State) → worded q k (record { text = x; place = o }) ≡ Some q' → Holds all b q' v
worded_reads {all} {v} {b} k x o (at_want r) q' e = subst (λ z. Holds all b z v) (same_Some _ _ e) (at_have r nothing a_word)
worded_reads {all} {v} {b} k x o (at_quantifier r) q' e = subst (λ z. Holds all b z v) (same_Some _ _ e) (at_have r quantified_by a_word)
worded_reads k x o (at_have r p i) q' e = second_reads k x o r p i q' e
worded_reads {all} {v} {b} k x o (at_words r m w) q' e = subst (λ z. Holds all b z v) (same_Some _ _ e) (at_words r m (words_snoc w))

body_frame_reads : {all u w : List Lexeme} {b s : List Frame} {f : Front} {k : WordKind} {x : List ℕ} {o l : Place} → Reading all b s u → may_be_open s ≡ true
    → IsFront f u (lexeme.Word k x o ∷ lexeme.Lambda l ∷ w) → Reading all b (body_frame f (record { text = x; place = o }) ∷ s) w
body_frame_reads r m nothing = in_body r m nothing tt
body_frame_reads r m (arguments h ps) = in_body r m (arguments h ps) tt
body_frame_reads {k} {x} {o} r m quantified_by = in_quantified r m (last_word k x o)

body_reads : {all u v w : List Lexeme} {b s : List Frame} {f : Front} {l : Latest} (d : Place) → Reading all b s u → IsFront f u v → IsLatest l v (lexeme.Lambda d ∷ w)
    → (q' : State) → body f l s ≡ Some q' → Holds all b q' w
body_reads {all} {w} {b} {s} {f} d r i (a_word {x} {p = o}) q' e =
    let both = cond_some (may_be_open s) (state.Want (body_frame f (record { text = x; place = o }) ∷ s)) q' e in
    subst (λ z. Holds all b z w) both.1 (at_want (body_frame_reads r both.0 i))
body_reads d r i (grouped g) q' e = absurd cc
body_reads d r i (plain g) q' e = absurd cc

bound_reads : {all v : List Lexeme} {b : List Frame} {q : State} (d : Place) → Holds all b q (lexeme.Lambda d ∷ v) → (q' : State) → bound q ≡ Some q' → Holds all b q' v
bound_reads d (at_want r) q' e = absurd cc
bound_reads d (at_quantifier r) q' e = absurd cc
bound_reads d (at_have r p i) q' e = body_reads d r p i q' e
bound_reads {all} {v} {b} d (at_words r m w) q' e = subst (λ z. Holds all b z v) (same_Some _ _ e) (at_want (in_quantified r m w))

quantifier_reads : {all v : List Lexeme} {b : List Frame} {q : State} (a : Bool) (p : Place) → Holds all b q (lexeme.Quantifier a p ∷ v) → (q' : State) → quantifier q a p ≡ Some q' → Holds all b q' v
quantifier_reads {all} {v} {b} a p (at_want r) q' e = subst (λ z. Holds all b z v) (same_Some _ _ e) (at_quantifier r)
quantifier_reads a p (at_quantifier r) q' e = absurd cc
quantifier_reads a p (at_have r f i) q' e = absurd cc
quantifier_reads a p (at_words r m w) q' e = absurd cc

closing_reads : {all v : List Lexeme} {b : List Frame} {q : State} (c : Closer) (d : Place) → Holds all b q (lexeme.Closer c d ∷ v) → (q' : State) → closing q c ≡ Some q' → Holds all b q' v
closing_reads c d (at_want r) q' e = empty_reads c d r q' e
closing_reads c d (at_quantifier r) q' e = absurd cc
closing_reads {v} c d (at_have {s} {f} {l} r p i) q' e = closed_reads c d (settle_reads r (lexeme.Closer c d ∷ v) (joined f (atom_of l)) Closed 9 (wanted_nine s) tt (is_joined p i)) q' e
closing_reads c d (at_words r m w) q' e = absurd cc

infixed_reads : {all v : List Lexeme} {b : List Frame} {q : State} (o : Operator) (c : Place) → Holds all b q (lexeme.Infix o c ∷ v) → (q' : State) → infixed q o c ≡ Some q' → Holds all b q' v
infixed_reads o c (at_want r) q' e = absurd cc
infixed_reads o c (at_quantifier r) q' e = absurd cc
infixed_reads {v} o c (at_have {s} {f} {l} r p i) q' e =
    wanted_reads (attach o c 9 (joined f (atom_of l)) s) q' e (λ s' d. attach_reads r v s' (joined f (atom_of l)) o c 9 (wanted_nine s) (is_joined p i) d)
infixed_reads o c (at_words r m w) q' e = absurd cc

-- A step reads one lexeme more.
pub step_reads : {all v : List Lexeme} {b : List Frame} {q : State} (c : Lexeme) → Holds all b q (c ∷ v) → (q' : State) → step q c ≡ Some q' → Holds all b q' v
step_reads (lexeme.Word k x p) h q' e = worded_reads k x p h q' e
step_reads {q} (lexeme.Literal n p) h q' e = atom_reads h (latest.Plain (literal_term n p)) (plain (literal_of n p)) (front_at q) refl q' e
step_reads (lexeme.Quantifier a p) h q' e = quantifier_reads a p h q' e
step_reads {q} (lexeme.OpenRound p) h q' e = opened_reads p h (front_at q) refl q' e
step_reads {q} (lexeme.OpenSquare p) h q' e = opened_list_reads p h (front_at q) refl q' e
step_reads (lexeme.Lambda p) h q' e = bound_reads p h q' e
step_reads (lexeme.Infix o p) h q' e = infixed_reads o p h q' e
step_reads (lexeme.Closer c p) h q' e = closing_reads c p h q' e
step_reads (lexeme.Mark m p) h q' e = absurd cc

pub settled_as : {all v : List Lexeme} {b : List Frame} {q : State} → Holds all b q v → (p : AstTerm × List Frame) → settled_at q ≡ Some p → Settled all v b p
settled_as (at_want r) p e = absurd cc
settled_as (at_quantifier r) p e = absurd cc
settled_as {all} {v} {b} (at_have {s} {f} {l} r g i) p e =
    subst (λ z. Settled all v b z) (same_Some _ _ e) (settle_reads r v (joined f (atom_of l)) Closed 9 (wanted_nine s) tt (is_joined g i))
settled_as (at_words r m w) p e = absurd cc

-- What is read where all brackets are closed is a phrase.
pub settled_reads : {all v : List Lexeme} {q : State} → Holds all [] q v → (t : AstTerm) → settled_at q ≡ Some (t, []) → (h : Shape) × Phrase 1 h all v t
settled_reads h t e = whole_reads (settled_as h (t, []) e) t refl

-- What is read there as a test is a closed one of the highest level.
pub test_reads : {all v : List Lexeme} {q : State} → Holds all (frame.Test ∷ []) q v → (t : AstTerm) → settled_at q ≡ Some (t, frame.Test ∷ []) → Phrase 9 Closed all v t
test_reads h t e = whole_test (settled_as h (t, frame.Test ∷ []) e) t refl

-- the stack from its last test, or nothing
abbrev pub bottom : List Frame → List Frame
bottom [] = []
bottom (frame.Left o p a ∷ s) = bottom s
bottom (frame.Body f x ∷ s) = bottom s
bottom (frame.Quantified q p xs ∷ s) = bottom s
bottom (frame.Group f ∷ s) = bottom s
bottom (frame.List f p ts ∷ s) = bottom s
bottom (frame.Tail f p ts ∷ s) = bottom s
bottom (frame.Test ∷ s) = frame.Test ∷ s

bottom_reads : {all u : List Lexeme} {b s : List Frame} → Reading all b s u → bottom s ≡ b
bottom_reads start = refl
bottom_reads start_test = refl
bottom_reads (left o p r l pa) = bottom_reads r
bottom_reads (in_body r n i m) = bottom_reads r
bottom_reads (in_quantified r n ws) = bottom_reads r
bottom_reads (in_group r i) = bottom_reads r
bottom_reads (in_list r i es) = bottom_reads r
bottom_reads (in_tail r i es) = bottom_reads r

-- The stack still has what it began as.
pub bottom_is : {all v : List Lexeme} {b : List Frame} {q : State} → Holds all b q v → bottom (stack_at q) ≡ b
bottom_is (at_want r) = bottom_reads r
bottom_is (at_quantifier r) = bottom_reads r
bottom_is (at_have r p i) = bottom_reads r
bottom_is (at_words r m w) = bottom_reads r
