-- The machines of items and of queries read exactly the programs and the queries.
use Rattle.std.proofs.Common.{◌≡◌, List, [], ◌∷◌, ◌++◌, refl, sym, ap, subst, ◌∙◌, append_assoc, append-nil, arith, Option, Some, None}
use Rattle.std.proofs.lemmas.Option.{same_Some}
use Rattle.lp_parser.specs.declared.ast.Place.{Place}
use Rattle.lp_parser.specs.declared.ast.AstTerm.{AstTerm}
use Rattle.lp_parser.specs.declared.ast.Decl.{Decl}
use Rattle.lp_parser.specs.declared.ast.Block.{Block}
use Rattle.lp_parser.specs.declared.ast.Item.{Item}
use Rattle.lp_parser.specs.declared.ast.Item.TheVariants as item
use Rattle.lp_parser.specs.declared.lexeme.Mark.{Mark}
use Rattle.lp_parser.specs.declared.lexeme.Mark.TheVariants as mark
use Rattle.lp_parser.specs.declared.lexeme.Lexeme.{Lexeme}
use Rattle.lp_parser.specs.declared.lexeme.Lexeme.TheVariants as lexeme
use Rattle.lp_parser.specs.declared.state.State.{State}
use Rattle.lp_parser.specs.declared.state.State.TheVariants.{Want}
use Rattle.lp_parser.specs.declared.item_state.DeclState.{DeclState}
use Rattle.lp_parser.specs.declared.item_state.BlockState.{BlockState}
use Rattle.lp_parser.specs.declared.item_state.ItemState.{ItemState}
use Rattle.lp_parser.specs.declared.item_state.ItemState.TheVariants as place
use Rattle.lp_parser.specs.declared.item_state.QueryState.{QueryState}
use Rattle.lp_parser.specs.declared.item_state.QueryState.TheVariants as query
use Rattle.lp_parser.specs.declared.item_state.Moved.{Moved}
use Rattle.lp_parser.specs.declared.item_state.Moved.TheVariants.{To}
use Rattle.lp_parser.specs.Grammar.{Shape, Phrase}
use Rattle.lp_parser.specs.Declarations.{DeclOf}
use Rattle.lp_parser.specs.Rules.{BlockOf, block}
use Rattle.lp_parser.specs.Program.{place_of, ItemOf, declaration, rule_block, clause, Program, no_item, item_and, Query, without_dot, with_dot}
use Rattle.lp_parser.specs.inside.TermMachine.{step, settled_at, stack_at}
use Rattle.lp_parser.specs.inside.DeclMachine.{decl_move}
use Rattle.lp_parser.specs.inside.RuleMachine.{whole}
use Rattle.lp_parser.specs.inside.ItemMachine.{block_move, in_decl, in_block, ends_clause, in_clause, begins_marked, begins, move, moved, item_step, item_whole, ends_query, in_query, query_step, query_whole}
use Rattle.lp_parser.proofs.TermComplete.{Goes, stays, steps, phrase_goes}
use Rattle.lp_parser.proofs.TermSound.{Holds, at_want, start, step_reads, bottom, bottom_is}
use Rattle.lp_parser.proofs.TermCompletions.{completes}
use Rattle.lp_parser.proofs.Walks.{Moves, rests, moves, Ends, ends, moves_first, moves_within, AtMoved, goes_to, is_done}
use Rattle.lp_parser.proofs.RuleTests.{goes_within}
use Rattle.lp_parser.proofs.RulesSound.{whole_reads}
use Rattle.lp_parser.proofs.Declarations.{DeclBegins, kind_begins, type_of_begins, pred_begins, decl_ends, DeclHolds, decl_begins_holds, decl_move_reads, decl_completes}
use Rattle.lp_parser.proofs.Blocks.{block_ends, BlockHolds, block_begins_holds, block_move_reads, BlockReached, block_completes}
use Rattle.lp_parser.proofs.Outcomes.{run, tree_of, Reads}

decl_within : {z : DeclState} {u v : List Lexeme} {d : Decl} → Ends decl_move z u d v → Ends move (place.Decl z) u (item.Decl d) v
decl_within (ends m e) = ends (moves_within place.Decl (λ q z c f. ap in_decl f) m) (ap in_decl e)

block_within : {z : BlockState} {u v : List Lexeme} {b : Block} → Ends block_move z u b v → Ends move (place.Block z) u (item.Block b) v
block_within (ends m e) = ends (moves_within place.Block (λ q z c f. ap in_block f) m) (ap in_block e)

clause_within : (p : Place) {q z : State} {u v : List Lexeme} → Goes q u z v → Moves move (place.Clause p q) u (place.Clause p z) v
clause_within p g = goes_within (place.Clause p) (λ q z c e. ap (λ o. in_clause p o c (whole (settled_at q))) e) g

decl_begins : {u v w : List Lexeme} {z : DeclState} {i : Item} → DeclBegins u z w → Ends move (place.Decl z) w i v → Ends move place.Between u i v
decl_begins (kind_begins p) m = moves_first refl m
decl_begins (type_of_begins p) m = moves_first refl m
decl_begins (pred_begins p) m = moves_first refl m

-- A clause begins as its term does.
clause_begins : (c : Lexeme) (q : State) → step (Want []) c ≡ Some q → begins c ≡ Some (To (place.Clause (place_of c) q))
clause_begins (lexeme.Mark m p) q e = absurd cc
clause_begins c q e = ap (λ o. in_clause (place_of c) o c None) e

clause_ends : {u v : List Lexeme} {d : Place} (c : Lexeme) (z : State) (t : AstTerm) → Goes (Want []) (c ∷ u) z (lexeme.Mark mark.Dot d ∷ v) → settled_at z ≡ Some (t, [])
    → Ends move place.Between (c ∷ u) (item.Clause (record { term = t; place = place_of c })) v
clause_ends c z t stays e = absurd cc
clause_ends {d} c z t (steps {p} f g) e =
    ends (moves (clause_begins c p f) (clause_within (place_of c) g)) (ap (λ o. in_clause (place_of c) None (lexeme.Mark mark.Dot d) (whole o)) e)

item_ends : {u v : List Lexeme} {i : Item} → ItemOf u v i → Ends move place.Between u i v
item_ends (declaration d) = let on = decl_ends d in decl_begins on.2 (decl_within on.3)
item_ends (rule_block (block p q r ns rs)) = moves_first refl (block_within (block_ends q r ns rs))
item_ends (clause {c} {t} q a) = let on = phrase_goes a [] (omega arith) refl in clause_ends c on.0 t on.1 on.2.settled

moves_run : {s z : ItemState} {u v : List Lexeme} → Moves move s u z v → (is : List Item) → run item_step (Some (is, s)) u ≡ run item_step (Some (is, z)) v
moves_run rests is = refl
moves_run (moves {c} {u} e m) is = ap (λ o. run item_step (moved is o) u) e ∙ moves_run m is

item_run : {u v : List Lexeme} {i : Item} → Ends move place.Between u i v → (is : List Item) → run item_step (Some (is, place.Between)) u ≡ run item_step (Some (is ++ i ∷ [], place.Between)) v
item_run (ends {v} m e) is = moves_run m is ∙ ap (λ o. run item_step (moved is o) v) e

items_run : {u : List Lexeme} {is : List Item} → Program u is → (pre : List Item) → run item_step (Some (pre, place.Between)) u ≡ Some (pre ++ is, place.Between)
items_run no_item pre = ap (λ y. Some (y, place.Between)) (sym (append-nil pre))
items_run (item_and {i} {is} p ps) pre =
    item_run (item_ends p) pre ∙ items_run ps (pre ++ i ∷ []) ∙ ap (λ y. Some (y, place.Between)) (append_assoc pre (i ∷ []) is)

-- What the grammar accepts as a program the machine reads, as the same items.
program_complete : (u : List Lexeme) (is : List Item) → Program u is → tree_of item_whole (run item_step (Some ([], place.Between)) u) ≡ Some is
program_complete u is p = ap (tree_of item_whole) (items_run p [])

-- the items that are read
data Got (all : List Lexeme) : List Item → List Lexeme → Type 0 where
  nothing_yet : Got all [] all
  and_one : {is : List Item} {u v : List Lexeme} {i : Item} → Got all is u → ItemOf u v i → Got all (is ++ i ∷ []) v

got_with : {all v : List Lexeme} {is js : List Item} → Got all is v → Program v js → Program all (is ++ js)
got_with nothing_yet p = p
got_with {all} {js} (and_one {is} {i} g a) p = subst (Program all) (sym (append_assoc is (i ∷ []) js)) (got_with g (item_and a p))

-- the items are read, and in this state the item behind them, up to these lexemes
data At (all : List Lexeme) : List Item → ItemState → List Lexeme → Type 0 where
  between : {is : List Item} {v : List Lexeme} → Got all is v → At all is place.Between v
  at_decl : {is : List Item} {u v : List Lexeme} {z : DeclState} → Got all is u → DeclHolds u z v → At all is (place.Decl z) v
  at_block : {is : List Item} {u v : List Lexeme} {z : BlockState} → Got all is u → BlockHolds u z v → At all is (place.Block z) v
  at_clause : {is : List Item} {c : Lexeme} {u v : List Lexeme} {q : State} → Got all is (c ∷ u) → Holds (c ∷ u) [] q v → At all is (place.Clause (place_of c) q) v

-- .. where a lexeme leads
abbrev ItemAt : List Lexeme → List Item → Moved ItemState Item → List Lexeme → Type 0
ItemAt all is m u = AtMoved (At all is) (λ i v. Got all (is ++ i ∷ []) v) m u

on : {all u : List Lexeme} {is : List Item} {m n : Moved ItemState Item} → Some m ≡ Some n → ItemAt all is m u → ItemAt all is n u
on {all} {u} {is} {m} {n} e a = subst (λ z. ItemAt all is z u) (same_Some m n e) a

decl_moved : {all u v : List Lexeme} {is : List Item} {n : Moved DeclState Decl} → Got all is u → AtMoved (DeclHolds u) (λ d y. DeclOf u y d) n v
    → (m : Moved ItemState Item) → in_decl (Some n) ≡ Some m → ItemAt all is m v
decl_moved g (goes_to h) m e = on e (goes_to (at_decl g h))
decl_moved g (is_done d) m e = on e (is_done (and_one g (declaration d)))

decl_at : {all u v : List Lexeme} {is : List Item} {z : DeclState} (c : Lexeme) → Got all is u → DeclHolds u z (c ∷ v) → (o : Option (Moved DeclState Decl)) → decl_move z c ≡ o
    → (m : Moved ItemState Item) → in_decl o ≡ Some m → ItemAt all is m v
decl_at c g h None f m e = absurd cc
decl_at c g h (Some n) f m e = decl_moved g (decl_move_reads c h n f) m e

block_moved : {all u v : List Lexeme} {is : List Item} {n : Moved BlockState Block} → Got all is u → AtMoved (BlockHolds u) (λ b y. BlockOf u y b) n v
    → (m : Moved ItemState Item) → in_block (Some n) ≡ Some m → ItemAt all is m v
block_moved g (goes_to h) m e = on e (goes_to (at_block g h))
block_moved g (is_done b) m e = on e (is_done (and_one g (rule_block b)))

block_at : {all u v : List Lexeme} {is : List Item} {z : BlockState} (c : Lexeme) → Got all is u → BlockHolds u z (c ∷ v) → (o : Option (Moved BlockState Block)) → block_move z c ≡ o
    → (m : Moved ItemState Item) → in_block o ≡ Some m → ItemAt all is m v
block_at c g h None f m e = absurd cc
block_at c g h (Some n) f m e = block_moved g (block_move_reads c h n f) m e

ends_clause_at : {all u v : List Lexeme} {is : List Item} {q : State} (c d : Lexeme) → Got all is (c ∷ u) → Holds (c ∷ u) [] q (d ∷ v) → (t : Option AstTerm) → whole (settled_at q) ≡ t
    → (m : Moved ItemState Item) → ends_clause (place_of c) t d ≡ Some m → ItemAt all is m v
ends_clause_at c (lexeme.Mark mark.Dot d) g h (Some t) f m e = on e (is_done (and_one g (clause d (whole_reads h t f).1)))
ends_clause_at c d g h (Some t) f m e = absurd cc
ends_clause_at c d g h None f m e = absurd cc

in_clause_at : {all u v : List Lexeme} {is : List Item} {q : State} (c d : Lexeme) → Got all is (c ∷ u) → Holds (c ∷ u) [] q (d ∷ v) → (o : Option State) → step q d ≡ o
    → (m : Moved ItemState Item) → in_clause (place_of c) o d (whole (settled_at q)) ≡ Some m → ItemAt all is m v
in_clause_at c d g h (Some z) f m e = on e (goes_to (at_clause g (step_reads d h z f)))
in_clause_at {q} c d g h None f m e = ends_clause_at c d g h (whole (settled_at q)) refl m e

begins_marked_at : {all u : List Lexeme} {is : List Item} (n : Mark) (p : Place) → Got all is (lexeme.Mark n p ∷ u) → (m : Moved ItemState Item) → begins_marked n ≡ Some m → ItemAt all is m u
begins_marked_at mark.KindWord p g m e = on e (goes_to (at_decl g (decl_begins_holds (kind_begins p))))
begins_marked_at mark.TypeWord p g m e = on e (goes_to (at_decl g (decl_begins_holds (type_of_begins p))))
begins_marked_at mark.PredWord p g m e = on e (goes_to (at_decl g (decl_begins_holds (pred_begins p))))
begins_marked_at mark.ConstraintWord p g m e = on e (goes_to (at_block g (block_begins_holds p)))
begins_marked_at n p g m e = absurd cc

-- In a clause that begins, nothing is over yet.
new_clause_at : {all u : List Lexeme} {is : List Item} (c : Lexeme) → Got all is (c ∷ u) → (o : Option State) → step (Want []) c ≡ o
    → (m : Moved ItemState Item) → in_clause (place_of c) o c None ≡ Some m → ItemAt all is m u
new_clause_at c g (Some z) f m e = on e (goes_to (at_clause g (step_reads c (at_want start) z f)))
new_clause_at c g None f m e = absurd cc

begins_at : {all u : List Lexeme} {is : List Item} (c : Lexeme) → Got all is (c ∷ u) → (m : Moved ItemState Item) → begins c ≡ Some m → ItemAt all is m u
begins_at (lexeme.Mark n p) g m e = begins_marked_at n p g m e
begins_at c g m e = new_clause_at c g (step (Want []) c) refl m e

move_at : {all v : List Lexeme} {is : List Item} {s : ItemState} (c : Lexeme) → At all is s (c ∷ v) → (m : Moved ItemState Item) → move s c ≡ Some m → ItemAt all is m v
move_at c (between g) m e = begins_at c g m e
move_at c (at_decl {z} g h) m e = decl_at c g h (decl_move z c) refl m e
move_at c (at_block {z} g h) m e = block_at c g h (block_move z c) refl m e
move_at d (at_clause {c} {q} g h) m e = in_clause_at c d g h (step q d) refl m e

at_of : {all v : List Lexeme} {is : List Item} {m : Moved ItemState Item} → ItemAt all is m v → (z : List Item × ItemState) → moved is (Some m) ≡ Some z → At all z.0 z.1 v
at_of {all} {v} (goes_to a) z e = subst (λ y. At all y.0 y.1 v) (same_Some _ _ e) a
at_of {all} {v} (is_done g) z e = subst (λ y. At all y.0 y.1 v) (same_Some _ _ e) (between g)

moved_at : {all v : List Lexeme} {is : List Item} (o : Option (Moved ItemState Item)) → ((m : Moved ItemState Item) → o ≡ Some m → ItemAt all is m v)
    → (z : List Item × ItemState) → moved is o ≡ Some z → At all z.0 z.1 v
moved_at None k z e = absurd cc
moved_at (Some m) k z e = at_of (k m refl) z e

run_at : {all v : List Lexeme} (u : List Lexeme) (o : Option (List Item × ItemState)) → ((z : List Item × ItemState) → o ≡ Some z → At all z.0 z.1 (u ++ v))
    → (z : List Item × ItemState) → run item_step o u ≡ Some z → At all z.0 z.1 v
run_at u None k z e = absurd cc
run_at [] (Some y) k z e = k z e
run_at (c ∷ u) (Some y) k z e = run_at u (moved y.0 (move y.1 c)) (moved_at (move y.1 c) (move_at c (k y refl))) z e

-- Whatever follows the lexemes, their items and state are read.
reached : (u : List Lexeme) (z : List Item × ItemState) → run item_step (Some ([], place.Between)) u ≡ Some z → (v : List Lexeme) → At (u ++ v) z.0 z.1 v
reached u z e v = run_at u (Some ([], place.Between)) (λ y f. subst (λ x. At (u ++ v) x.0 x.1 (u ++ v)) (same_Some _ _ f) (between nothing_yet)) z e

at_end : {all : List Lexeme} {is : List Item} {s : ItemState} → At all is s [] → (js : List Item) → item_whole (is, s) ≡ Some js → Program all js
at_end {all} {is} (between g) js e = subst (Program all) (append-nil is ∙ same_Some _ _ e) (got_with g no_item)
at_end (at_decl g h) js e = absurd cc
at_end (at_block g h) js e = absurd cc
at_end (at_clause g h) js e = absurd cc

sound_from : (u : List Lexeme) (is : List Item) (o : Option (List Item × ItemState)) → run item_step (Some ([], place.Between)) u ≡ o → tree_of item_whole o ≡ Some is → Program u is
sound_from u is None f e = absurd cc
sound_from u is (Some z) f e = subst (λ y. Program y is) (append-nil u) (at_end (reached u z f []) is e)

-- What the machine reads as items the grammar accepts.
program_sound : (u : List Lexeme) (is : List Item) → tree_of item_whole (run item_step (Some ([], place.Between)) u) ≡ Some is → Program u is
program_sound u is e = sound_from u is (run item_step (Some ([], place.Between)) u) refl e

-- a dot
abbrev dot : Lexeme
dot = lexeme.Mark mark.Dot (record { file = 0; at = 0 })

-- Some lexemes lead to the end of the item.
abbrev ItemCompletes : ItemState → Type 0
ItemCompletes s = (u : List Lexeme) × (i : Item) × Ends move s u i []

block_reached : (all : List Lexeme → List Lexeme) (is : List Item) (z : BlockState) → ((v : List Lexeme) → At (all v) is (place.Block z) v) → BlockReached z
block_reached all is z k v = found (k v)
  where
    found : At (all v) is (place.Block z) v → (w : List Lexeme) × BlockHolds w z v
    found (at_block {u} g h) = (u, h)

clause_bottom : {all v : List Lexeme} (is : List Item) (p : Place) (q : State) → At all is (place.Clause p q) v → bottom (stack_at q) ≡ []
clause_bottom is p q (at_clause g h) = bottom_is h

clause_completes : (p : Place) (q : State) → bottom (stack_at q) ≡ [] → ItemCompletes (place.Clause p q)
clause_completes p q b =
    let done = completes q in
    let t = done.1.1 in
    let e : settled_at done.1.0 ≡ Some (t, []) = done.1.2 ∙ ap (λ y. Some (t, y)) b in
    (done.0 ++ dot ∷ [], item.Clause (record { term = t; place = p }), ends (clause_within p (done.1.3 (dot ∷ []))) (ap (λ o. in_clause p None dot (whole o)) e))

-- Some lexemes lead on to the end of a program.
abbrev Ended : List Item × ItemState → Type 0
Ended z = (others : List Lexeme) × (js : List Item) × (tree_of item_whole (run item_step (Some z) others) ≡ Some js)

ended_item : (is : List Item) (s : ItemState) → ItemCompletes s → Ended (is, s)
ended_item is s (u, i, ends {v} m e) = (u, is ++ i ∷ [], ap (tree_of item_whole) (moves_run m is ∙ ap (λ o. run item_step (moved is o) v) e))

ends_from : (all : List Lexeme → List Lexeme) (is : List Item) (s : ItemState) → ((v : List Lexeme) → At (all v) is s v) → Ended (is, s)
ends_from all is place.Between k = ([], is, refl)
ends_from all is (place.Decl z) k =
    let done = decl_completes (record { file = 0; at = 0 }) z in
    ended_item is (place.Decl z) (done.0, item.Decl done.1, decl_within done.2)
ends_from all is (place.Block z) k =
    let done = block_completes z (block_reached all is z k) in
    ended_item is (place.Block z) (done.0, item.Block done.1, block_within done.2)
ends_from all is (place.Clause p q) k = ended_item is (place.Clause p q) (clause_completes p q (clause_bottom is p q (k [])))

program_goes_on : (u : List Lexeme) (z : List Item × ItemState) → run item_step (Some ([], place.Between)) u ≡ Some z → Ended z
program_goes_on u z e = ends_from (λ v. u ++ v) z.0 z.1 (reached u z e)

-- The machine of items reads exactly the programs.
pub reads_programs : Reads item_step item_whole ([], place.Between) Program
reads_programs = record { sound = program_sound; complete = program_complete; goes_on = program_goes_on }

query_goes : {q z : State} {u v : List Lexeme} → Goes q u z v → run query_step (Some (query.Term q)) u ≡ run query_step (Some (query.Term z)) v
query_goes stays = refl
query_goes {q} (steps {c} {u} e g) = ap (λ o. run query_step (in_query o c (whole (settled_at q))) u) e ∙ query_goes g

-- What the grammar accepts as a query the machine reads, as the same term.
query_complete : (u : List Lexeme) (t : AstTerm) → Query u t → tree_of query_whole (run query_step (Some (query.Term (Want []))) u) ≡ Some t
query_complete u t (without_dot a) = let on = phrase_goes a [] (omega arith) refl in ap (tree_of query_whole) (query_goes on.1) ∙ ap whole on.2.settled
query_complete u t (with_dot q a) =
    let on = phrase_goes a [] (omega arith) refl in
    ap (tree_of query_whole) (query_goes on.1 ∙ ap (λ o. run query_step (ends_query (whole o) (lexeme.Mark mark.Dot q)) []) on.2.settled)

-- the query all is read in this state up to these lexemes
data QueryAt (all : List Lexeme) : QueryState → List Lexeme → Type 0 where
  in_term : {q : State} {v : List Lexeme} → Holds all [] q v → QueryAt all (query.Term q) v
  at_dot : {t : AstTerm} {s : Shape} {v : List Lexeme} (d : Place) → Phrase 1 s all (lexeme.Mark mark.Dot d ∷ v) t → QueryAt all (query.Ended t) v

ends_query_at : {all v : List Lexeme} {q : State} (c : Lexeme) → Holds all [] q (c ∷ v) → (t : Option AstTerm) → whole (settled_at q) ≡ t → (z : QueryState) → ends_query t c ≡ Some z → QueryAt all z v
ends_query_at {all} {v} (lexeme.Mark mark.Dot d) h (Some t) f z e = subst (λ y. QueryAt all y v) (same_Some _ _ e) (at_dot d (whole_reads h t f).1)
ends_query_at c h (Some t) f z e = absurd cc
ends_query_at c h None f z e = absurd cc

in_query_at : {all v : List Lexeme} {q : State} (c : Lexeme) → Holds all [] q (c ∷ v) → (o : Option State) → step q c ≡ o → (z : QueryState) → in_query o c (whole (settled_at q)) ≡ Some z → QueryAt all z v
in_query_at {all} {v} c h (Some y) f z e = subst (λ x. QueryAt all x v) (same_Some _ _ e) (in_term (step_reads c h y f))
in_query_at {q} c h None f z e = ends_query_at c h (whole (settled_at q)) refl z e

query_step_at : {all v : List Lexeme} {y : QueryState} (c : Lexeme) → QueryAt all y (c ∷ v) → (z : QueryState) → query_step y c ≡ Some z → QueryAt all z v
query_step_at c (in_term {q} h) z e = in_query_at c h (step q c) refl z e
query_step_at c (at_dot d a) z e = absurd cc

query_run_at : {all v : List Lexeme} (u : List Lexeme) (o : Option QueryState) → ((z : QueryState) → o ≡ Some z → QueryAt all z (u ++ v)) → (z : QueryState) → run query_step o u ≡ Some z → QueryAt all z v
query_run_at u None k z e = absurd cc
query_run_at [] (Some y) k z e = k z e
query_run_at (c ∷ u) (Some y) k z e = query_run_at u (query_step y c) (query_step_at c (k y refl)) z e

query_reached : (u : List Lexeme) (z : QueryState) → run query_step (Some (query.Term (Want []))) u ≡ Some z → (v : List Lexeme) → QueryAt (u ++ v) z v
query_reached u z e v = query_run_at u (Some (query.Term (Want []))) (λ y f. subst (λ x. QueryAt (u ++ v) x (u ++ v)) (same_Some _ _ f) (in_term (at_want start))) z e

query_end : {all : List Lexeme} {z : QueryState} → QueryAt all z [] → (t : AstTerm) → query_whole z ≡ Some t → Query all t
query_end (in_term h) t e = without_dot (whole_reads h t e).1
query_end {all} (at_dot d a) t e = subst (Query all) (same_Some _ _ e) (with_dot d a)

query_sound_from : (u : List Lexeme) (t : AstTerm) (o : Option QueryState) → run query_step (Some (query.Term (Want []))) u ≡ o → tree_of query_whole o ≡ Some t → Query u t
query_sound_from u t None f e = absurd cc
query_sound_from u t (Some z) f e = subst (λ y. Query y t) (append-nil u) (query_end (query_reached u z f []) t e)

-- What the machine reads as a term the grammar accepts.
query_sound : (u : List Lexeme) (t : AstTerm) → tree_of query_whole (run query_step (Some (query.Term (Want []))) u) ≡ Some t → Query u t
query_sound u t e = query_sound_from u t (run query_step (Some (query.Term (Want []))) u) refl e

query_bottom : {all v : List Lexeme} (q : State) → QueryAt all (query.Term q) v → bottom (stack_at q) ≡ []
query_bottom q (in_term h) = bottom_is h

query_ends_from : (z : QueryState) → (all : List Lexeme) → QueryAt all z [] → (others : List Lexeme) × (t : AstTerm) × (tree_of query_whole (run query_step (Some z) others) ≡ Some t)
query_ends_from (query.Term q) all k =
    let done = completes q in
    let t = done.1.1 in
    let e : settled_at done.1.0 ≡ Some (t, []) = done.1.2 ∙ ap (λ y. Some (t, y)) (query_bottom q k) in
    (done.0 ++ [], t, ap (tree_of query_whole) (query_goes (done.1.3 [])) ∙ ap whole e)
query_ends_from (query.Ended t) all k = ([], t, refl)

query_goes_on : (u : List Lexeme) (z : QueryState) → run query_step (Some (query.Term (Want []))) u ≡ Some z → (others : List Lexeme) × (t : AstTerm) × (tree_of query_whole (run query_step (Some z) others) ≡ Some t)
query_goes_on u z e = query_ends_from z (u ++ []) (query_reached u z e [])

-- The machine of queries reads exactly the queries.
pub reads_queries : Reads query_step query_whole (query.Term (Want [])) Query
reads_queries = record { sound = query_sound; complete = query_complete; goes_on = query_goes_on }
