use Rattle.std.proofs.Common.{◌∙◌, ap}
use Rattle.std.specs.Prelude.{position}
use mathlib.Core.Path.{fun_ext}
use Rattle.clause_index.proofs.EqLemmas.{group-is}
use Rattle.clause_index.proofs.lists.Lists.number.Goals as goal

pub returns : goal.returns
returns c = c.get_index_of.ensures.index ∙ ap (λ f. position f c.args.self.now.groups.keys) (fun_ext (λ h. group-is c.args.group h))
