use Rattle.std.proofs.Common.{◌≡◌, ℕ, ◌+◌, ◌<◌, get_or, vec_len}
use Rattle.agenda.specs.inside.Ranks.{node, ranks_of}
use Rattle.agenda.proofs.ranks.wider.Given as goal

abbrev pub invariant-loop-place : goal.invariant-loop-place
invariant-loop-place l = vec_len l.nodes ≡ l.place

abbrev pub invariant-loop-place-2 : goal.invariant-loop-place-2
invariant-loop-place-2 l =
    (vec_len l.nodes ≡ l.places + l.place)
    × ((place : ℕ) → place < l.place → node l.nodes.items (l.places + place) ≡ record { rank = get_or (ranks_of l.leaves) place l.rank; place = place })
