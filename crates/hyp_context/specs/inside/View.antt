-- What contracts see of the lists of a context.
use Rattle.std.specs.Prelude.{◌≡◌, List, length}
use Rattle.hyp_clause.specs.declared.hyp.Hyp.{Hyp}
use Rattle.hyp_context.specs.declared.parts.Parts.TheInside.{Inside}
use Rattle.hyp_context.specs.Contexts.{changeable_hyps}
use Rattle.hyp_context.specs.inside.Items.{items_of}
use Rattle.hyp_context.specs.inside.Found.{IsTable}

-- all assumptions
abbrev pub hyps_of : Inside → List Hyp
hyps_of c = items_of c.all

-- they are counted, those in which something can change are listed, and the table is of all
pub record IsKept (c : Inside) : Type 0 where
  pub count : c.count ≡ length (hyps_of c)
  pub changeable : items_of c.changeable ≡ changeable_hyps (hyps_of c)
  pub table : IsTable c.by_pred (hyps_of c)
