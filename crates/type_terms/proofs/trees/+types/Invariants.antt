use Rattle.std.proofs.Common.{◌≡◌, take}
use Rattle.type_terms.specs.Nodes.{Reads}
use Rattle.type_terms.specs.Read.{HasSpine, scope, declared_of}
use Rattle.type_terms.proofs.trees.+types.Given as goal

abbrev pub invariant-read_all-loop-arg : goal.invariant-read_all-loop-arg
invariant-read_all-loop-arg l = record {
  kept : l.binders.items ≡ l.fn.binders.items;
  read : Reads l.fn.graph l.graph (HasSpine (scope (declared_of l.scope.declared.now) l.scope.constants.now l.scope.variables.now l.fn.binders.items) l.function (take l.arg-index l.args)) l.result;
}
