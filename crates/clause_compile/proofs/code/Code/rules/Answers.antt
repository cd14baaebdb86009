use Rattle.clause_compile.proofs.code.Code.rules.Goals as goal

pub returns : goal.returns
returns c = λ n g p w. record { nodes = w.nodes; shared = w.shared; rules = w.rules }
