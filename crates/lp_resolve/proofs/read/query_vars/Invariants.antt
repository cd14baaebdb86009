use Rattle.std.proofs.Common.{◌≡◌, ◌++◌, map, drop}
use Rattle.lp_resolve.specs.Queries.{query_var}
use Rattle.lp_resolve.proofs.read.query_vars.Given as goal

-- the variables so far, and then those that are left
abbrev pub invariant-loop-variable : goal.invariant-loop-variable
invariant-loop-variable l = l.vars ++ map (query_var l.symbols) (drop l.variable-index l.names) ≡ map (query_var l.symbols) l.names
