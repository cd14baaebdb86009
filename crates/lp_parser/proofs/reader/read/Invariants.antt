use Rattle.lp_parser.specs.Lexemes.{lexemes_of}
use Rattle.lp_parser.proofs.Loops.{IsBehind}
use Rattle.lp_parser.proofs.reader.read.Given as goal

abbrev pub invariant-loop-index : goal.invariant-loop-index
invariant-loop-index g l = IsBehind g.M.Machine.steps g.M.Machine.tree l.fn.start l.fn.part (lexemes_of l.file l.tokens) l.index l.machine l.nesting l.rule
