-- The machine of blocks reads exactly the blocks, and some lexemes lead from each of its states that is reached to a block.
use Rattle.std.proofs.Common.{◌≡◌, ℕ, List, [], ◌∷◌, ◌++◌, refl, sym, ap, subst, append_assoc, append-nil, Option, Some, None}
use Rattle.std.proofs.lemmas.Option.{same_Some}
use Rattle.lp_parser.specs.declared.ast.Place.{Place}
use Rattle.lp_parser.specs.declared.ast.WordKind.TheVariants.{Name}
use Rattle.lp_parser.specs.declared.ast.Word.{Word}
use Rattle.lp_parser.specs.declared.ast.Rule.{Rule}
use Rattle.lp_parser.specs.declared.ast.Block.{Block}
use Rattle.lp_parser.specs.declared.lexeme.Mark.{Mark}
use Rattle.lp_parser.specs.declared.lexeme.Mark.TheVariants as mark
use Rattle.lp_parser.specs.declared.lexeme.Lexeme.{Lexeme}
use Rattle.lp_parser.specs.declared.lexeme.Lexeme.TheVariants as lexeme
use Rattle.lp_parser.specs.declared.item_state.RuleState.{RuleState}
use Rattle.lp_parser.specs.declared.item_state.BlockState.{BlockState}
use Rattle.lp_parser.specs.declared.item_state.BlockState.TheVariants as block
use Rattle.lp_parser.specs.declared.item_state.Moved.{Moved}
use Rattle.lp_parser.specs.Rules.{RuleOf, rule, RulesOf, no_rule, rule_and, BlockNames, no_block_name, block_name_and, BlockOf, block}
use Rattle.lp_parser.specs.inside.RuleMachine.{rule_move}
use Rattle.lp_parser.specs.inside.ItemMachine.{block_name, between_rules, in_rule, block_move}
use Rattle.lp_parser.proofs.Walks.{Moves, rests, moves, Ends, ends, and_moves, one_move, and_ends, moves_within, ends_more, AtMoved, goes_to, is_done}
use Rattle.lp_parser.proofs.Rules.{rule_ends}
use Rattle.lp_parser.proofs.RulesSound.{rule_began, RuleHolds, at_start, rule_move_reads}
use Rattle.lp_parser.proofs.RulesCompletions.{Reached, rule_completes}

names_move : {u v : List Lexeme} {ws : List Word} → BlockNames u v ws → (pre : List Word) → Moves block_move (block.Names pre) u (block.Names (pre ++ ws)) v
names_move no_block_name pre = rw append-nil rests
names_move {v} (block_name_and {u = u1} {ws} x p ns) pre =
    let w : Word = record { text = x; place = p } in
    moves refl (subst (λ y. Moves block_move (block.Names (pre ++ w ∷ [])) u1 (block.Names y) v) (append_assoc pre (w ∷ []) ws) (names_move ns (pre ++ w ∷ [])))

-- The end of a rule leads between the rules.
rule_within : {z : RuleState} {u v : List Lexeme} {r : Rule} → Ends rule_move z u r v → (ws : List Word) (rs : List Rule) → Moves block_move (block.Rule ws rs z) u (block.Rules ws (rs ++ r ∷ [])) v
rule_within (ends m e) ws rs = and_moves (moves_within (block.Rule ws rs) (λ q z c f. ap (in_rule ws rs) f) m) (one_move (ap (in_rule ws rs) e))

rules_move : {u v : List Lexeme} {rs : List Rule} → RulesOf u v rs → (ws : List Word) (pre : List Rule) → Moves block_move (block.Rules ws pre) u (block.Rules ws (pre ++ rs)) v
rules_move no_rule ws pre = rw append-nil rests
rules_move {v} (rule_and {v = u1} {r} {rs} (rule p q h i j k) a) ws pre =
    moves refl (and_moves (rule_within (rule_ends p q h i j k) ws pre)
    (subst (λ y. Moves block_move (block.Rules ws (pre ++ r ∷ [])) u1 (block.Rules ws y) v) (append_assoc pre (r ∷ []) rs) (rules_move a ws (pre ++ r ∷ []))))

-- A block goes from its word to its end.
pub block_ends : {u v w : List Lexeme} {ws : List Word} {rs : List Rule} (q r : Place) → BlockNames u (lexeme.Mark mark.OpenCurly q ∷ v) ws → RulesOf v (lexeme.Mark mark.CloseCurly r ∷ w) rs
    → Ends block_move (block.Names []) u (record { names = ws; rules = rs }) w
block_ends {ws} q r ns rs = and_ends (names_move ns []) (and_ends (one_move refl) (ends (rules_move rs ws []) refl))

-- the word `constraint`
pub data BlockBegan : List Lexeme → List Lexeme → Type 0 where
  block_began : {u : List Lexeme} (p : Place) → BlockBegan (lexeme.Mark mark.ConstraintWord p ∷ u) u

-- any number of names, and of rules
pub data FrontNames : List Lexeme → List Lexeme → List Word → Type 0 where
  no_front_name : {u : List Lexeme} → FrontNames u u []
  and_front_name : {u v : List Lexeme} {ws : List Word} (x : List ℕ) (p : Place) → FrontNames u (lexeme.Word Name x p ∷ v) ws → FrontNames u v (ws ++ record { text = x; place = p } ∷ [])

pub data FrontRules : List Lexeme → List Lexeme → List Rule → Type 0 where
  no_front_rule : {u : List Lexeme} → FrontRules u u []
  and_front_rule : {u v w : List Lexeme} {rs : List Rule} {r : Rule} → FrontRules u v rs → RuleOf v w r → FrontRules u w (rs ++ r ∷ [])

names_with : {u v w : List Lexeme} {xs ys : List Word} → FrontNames u v xs → BlockNames v w ys → BlockNames u w (xs ++ ys)
names_with no_front_name a = a
names_with {u} {w} {ys} (and_front_name {ws} x p f) a =
    subst (BlockNames u w) (sym (append_assoc ws (record { text = x; place = p } ∷ []) ys)) (names_with f (block_name_and x p a))

rules_with : {u v w : List Lexeme} {xs ys : List Rule} → FrontRules u v xs → RulesOf v w ys → RulesOf u w (xs ++ ys)
rules_with no_front_rule a = a
rules_with {u} {w} {ys} (and_front_rule {rs} {r} f b) a = subst (RulesOf u w) (sym (append_assoc rs (r ∷ []) ys)) (rules_with f (rule_and b a))

names_all : {u v : List Lexeme} {ws : List Word} → FrontNames u v ws → BlockNames u v ws
names_all {u} {v} {ws} f = subst (BlockNames u v) (append-nil ws) (names_with f no_block_name)

rules_all : {u v : List Lexeme} {rs : List Rule} → FrontRules u v rs → RulesOf u v rs
rules_all {u} {v} {rs} f = subst (RulesOf u v) (append-nil rs) (rules_with f no_rule)

-- the lexemes all are read in this state of a block up to these lexemes
pub data BlockHolds (all : List Lexeme) : BlockState → List Lexeme → Type 0 where
  at_names : {u v : List Lexeme} {ws : List Word} → BlockBegan all u → FrontNames u v ws → BlockHolds all (block.Names ws) v
  at_rules : {u v w : List Lexeme} {ws : List Word} {rs : List Rule} (q : Place)
      → BlockBegan all u → BlockNames u (lexeme.Mark mark.OpenCurly q ∷ v) ws → FrontRules v w rs → BlockHolds all (block.Rules ws rs) w
  at_rule : {u v w x : List Lexeme} {ws : List Word} {rs : List Rule} {z : RuleState} (q : Place)
      → BlockBegan all u → BlockNames u (lexeme.Mark mark.OpenCurly q ∷ v) ws → FrontRules v w rs → RuleHolds w z x → BlockHolds all (block.Rule ws rs z) x

pub block_begins_holds : {u : List Lexeme} (p : Place) → BlockHolds (lexeme.Mark mark.ConstraintWord p ∷ u) (block.Names []) u
block_begins_holds p = at_names (block_began p) no_front_name

-- .. where a lexeme leads
abbrev pub BlockAt : List Lexeme → Moved BlockState Block → List Lexeme → Type 0
BlockAt all m u = AtMoved (BlockHolds all) (λ b v. BlockOf all v b) m u

on : {all u : List Lexeme} {m n : Moved BlockState Block} → Some m ≡ Some n → BlockAt all m u → BlockAt all n u
on {all} {u} {m} {n} e a = subst (λ z. BlockAt all z u) (same_Some m n e) a

block_is : {all u v w : List Lexeme} {ws : List Word} {rs : List Rule} (q r : Place) → BlockBegan all u → BlockNames u (lexeme.Mark mark.OpenCurly q ∷ v) ws → RulesOf v (lexeme.Mark mark.CloseCurly r ∷ w) rs
    → BlockOf all w (record { names = ws; rules = rs })
block_is q r (block_began p) ns rs = block p q r ns rs

name_reads : {all u v : List Lexeme} {ws : List Word} (c : Lexeme) → BlockBegan all u → FrontNames u (c ∷ v) ws → (m : Moved BlockState Block) → block_name ws c ≡ Some m → BlockAt all m v
name_reads (lexeme.Word Name x p) b f m e = on e (goes_to (at_names b (and_front_name x p f)))
name_reads (lexeme.Mark mark.OpenCurly q) b f m e = on e (goes_to (at_rules q b (names_all f) no_front_rule))
name_reads c b f m e = absurd cc

between_reads : {all u v w : List Lexeme} {ws : List Word} {rs : List Rule} (q : Place) (c : Lexeme) → BlockBegan all u → BlockNames u (lexeme.Mark mark.OpenCurly q ∷ v) ws → FrontRules v (c ∷ w) rs
    → (m : Moved BlockState Block) → between_rules ws rs c ≡ Some m → BlockAt all m w
between_reads q (lexeme.Mark mark.RuleWord p) b ns f m e = on e (goes_to (at_rule q b ns f (at_start (rule_began p))))
between_reads q (lexeme.Mark mark.CloseCurly p) b ns f m e = on e (is_done (block_is q p b ns (rules_all f)))
between_reads q c b ns f m e = absurd cc

in_rule_reads : {all u v w x : List Lexeme} {ws : List Word} {rs : List Rule} {n : Moved RuleState Rule} (q : Place) → BlockBegan all u → BlockNames u (lexeme.Mark mark.OpenCurly q ∷ v) ws → FrontRules v w rs
    → AtMoved (RuleHolds w) (λ r y. RuleOf w y r) n x → (m : Moved BlockState Block) → in_rule ws rs (Some n) ≡ Some m → BlockAt all m x
in_rule_reads q b ns f (goes_to h) m e = on e (goes_to (at_rule q b ns f h))
in_rule_reads q b ns f (is_done r) m e = on e (goes_to (at_rules q b ns (and_front_rule f r)))

rule_reads : {all u v w x : List Lexeme} {ws : List Word} {rs : List Rule} {z : RuleState} (q : Place) (c : Lexeme) → BlockBegan all u → BlockNames u (lexeme.Mark mark.OpenCurly q ∷ v) ws → FrontRules v w rs
    → RuleHolds w z (c ∷ x) → (o : Option (Moved RuleState Rule)) → rule_move z c ≡ o → (m : Moved BlockState Block) → in_rule ws rs o ≡ Some m → BlockAt all m x
rule_reads q c b ns f h None i m e = absurd cc
rule_reads q c b ns f h (Some n) i m e = in_rule_reads q b ns f (rule_move_reads c h n i) m e

pub block_move_reads : {all v : List Lexeme} {z : BlockState} (c : Lexeme) → BlockHolds all z (c ∷ v) → (m : Moved BlockState Block) → block_move z c ≡ Some m → BlockAt all m v
block_move_reads c (at_names b f) m e = name_reads c b f m e
block_move_reads c (at_rules q b ns f) m e = between_reads q c b ns f m e
block_move_reads c (at_rule {z} q b ns f h) m e = rule_reads q c b ns f h (rule_move z c) refl m e

-- The state is reached: whatever follows, some lexemes lead to it.
abbrev pub BlockReached : BlockState → Type 0
BlockReached z = (v : List Lexeme) → (all : List Lexeme) × BlockHolds all z v

abbrev pub BlockCompletes : BlockState → Type 0
BlockCompletes z = (u : List Lexeme) × (b : Block) × Ends block_move z u b []

-- a mark at a place
abbrev a_mark : Mark → Lexeme
a_mark m = lexeme.Mark m (record { file = 0; at = 0 })

rule_reached : (ws : List Word) (rs : List Rule) (z : RuleState) → BlockReached (block.Rule ws rs z) → Reached z
rule_reached ws rs z k v = found (k v).1
  where
    found : {all : List Lexeme} → BlockHolds all (block.Rule ws rs z) v → (w : List Lexeme) × RuleHolds w z v
    found (at_rule {w} q b ns f h) = (w, h)

pub block_completes : (z : BlockState) → BlockReached z → BlockCompletes z
block_completes (block.Names ws) k = (a_mark mark.OpenCurly ∷ a_mark mark.CloseCurly ∷ [], record { names = ws; rules = [] }, ends (one_move refl) refl)
block_completes (block.Rules ws rs) k = (a_mark mark.CloseCurly ∷ [], record { names = ws; rules = rs }, ends rests refl)
block_completes (block.Rule ws rs z) k =
    let done = rule_completes z (rule_reached ws rs z k) in
    (done.0 ++ a_mark mark.CloseCurly ∷ [], record { names = ws; rules = rs ++ done.1 ∷ [] }, ends (rule_within (ends_more done.2 (a_mark mark.CloseCurly ∷ [])) ws rs) refl)
