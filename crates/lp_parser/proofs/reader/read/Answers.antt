use Rattle.std.proofs.Common.{rules, ◌+◌, ◌<◌, ◌≤◌, sum, subst, sym, ◌∙◌}
use Rattle.lp_parser.specs.Lexemes.{lexeme_of, lexemes_of}
use Rattle.lp_parser.specs.Refusal.{rule_after}
use Rattle.lp_parser.proofs.Loops.{IsBehind, at_index, no_step, too_deep, one_step}
use Rattle.lp_parser.proofs.reader.read.Goals as goal

pub returns-in-None-clause-refusal : goal.returns-in-None-clause-refusal
returns-in-None-clause-refusal g c =
    no_step g.M.Machine.steps g.M.Machine.tree c.args.start c.args.part (lexemes_of c.args.file c.args.tokens.now) c.loop-index.index c.loop-index.machine c.loop-index.nesting c.loop-index.rule c.loop-index.invariant
    c.in_ok-lexeme.lexeme
    (at_index (lexeme_of c.args.file c.args.tokens.now.text) c.args.tokens.now.items c.loop-index.index c.in_ok-lexeme.lexeme c.in_ok-lexeme.ensures)
    (sym c.in_ok-next.ensures ∙ c.in-None.is)

pub returns-then-depth-gt-MAX_NESTING-clause-refusal :
    goal.returns-then-depth-gt-MAX_NESTING-clause-refusal
returns-then-depth-gt-MAX_NESTING-clause-refusal g c =
    too_deep g.M.Machine.steps g.M.Machine.tree c.args.start c.args.part (lexemes_of c.args.file c.args.tokens.now) c.loop-index.index c.loop-index.machine c.loop-index.nesting c.loop-index.rule c.loop-index.invariant
    c.in_ok-lexeme.lexeme
    (at_index (lexeme_of c.args.file c.args.tokens.now.text) c.args.tokens.now.items c.loop-index.index c.in_ok-lexeme.lexeme c.in_ok-lexeme.ensures) c.in-Some.next
    (sym c.in_ok-next.ensures ∙ c.in-Some.is) (subst (λ n. 2000 < sum n.frames) c.in_ok-see.ensures (search rules))

pub loop-index-preserved : goal.loop-index-preserved
loop-index-preserved g c =
    subst
    (λ r. IsBehind g.M.Machine.steps g.M.Machine.tree c.args.start c.args.part (lexemes_of c.args.file c.args.tokens.now) (c.loop-index.index + 1) c.in-Some.next c.see.new.self r)
    (sym c.rule_after-next_rule.ensures)
    (subst
    (λ n. IsBehind g.M.Machine.steps g.M.Machine.tree c.args.start c.args.part (lexemes_of c.args.file c.args.tokens.now) (c.loop-index.index + 1) c.in-Some.next n (rule_after c.loop-index.rule c.in_ok-lexeme.lexeme))
    (sym c.in_ok-see.ensures)
    (one_step g.M.Machine.steps g.M.Machine.tree c.args.start c.args.part (lexemes_of c.args.file c.args.tokens.now) c.loop-index.index c.loop-index.machine c.loop-index.nesting c.loop-index.rule c.loop-index.invariant
    c.in_ok-lexeme.lexeme
    (at_index (lexeme_of c.args.file c.args.tokens.now.text) c.args.tokens.now.items c.loop-index.index c.in_ok-lexeme.lexeme c.in_ok-lexeme.ensures) c.in-Some.next
    (sym c.in_ok-next.ensures ∙ c.in-Some.is) (subst (λ n. sum n.frames ≤ 2000) c.in_ok-see.ensures (search rules))))
