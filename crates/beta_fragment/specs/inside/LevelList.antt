-- Lists of names, of which the first ones are their own.
use Rattle.std.specs.Prelude.{ℕ, ◌+◌, ◌<◌, ◌^◌, List, ◌++◌, vec_len}
use Rattle.std.specs.List.{range_with_len}
use Rattle.beta_fragment.specs.declared.levels.Levels.TheInside.{Inside}

-- the names, as contracts see them
abbrev pub levels_view : Inside → List ℕ
levels_view it = range_with_len 0 it.own ++ it.more.items

-- they can be counted
abbrev pub AreFew : Inside → Type 0
AreFew it = it.own + vec_len it.more < 2 ^ 64
