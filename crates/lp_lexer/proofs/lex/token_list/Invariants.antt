use Rattle.std.proofs.Common.{◌-◌, length}
use Rattle.lp_lexer.proofs.Lists.{IsBehind}
use Rattle.lp_lexer.proofs.lex.token_list.Given as goal

abbrev pub invariant-loop-list : goal.invariant-loop-list
invariant-loop-list l = IsBehind l.text l.index l.at l.list.items

abbrev pub decreases-loop-list : goal.decreases-loop-list
decreases-loop-list l = length l.text - l.index
