use Rattle.std.proofs.Common.{length, sym, subst, [], arith}
use Rattle.level_terms.proofs.GrowthLemmas.{grows-refl}
use Rattle.level_terms.specs.Values.{IsVarOf, value_of}
use Rattle.beta_fragment.proofs.VarLemmas.{var-known}
use Rattle.beta_fragment.proofs.StayLemmas.{var-low}
use Rattle.beta_fragment.proofs.FirmLemmas.{var-open}
use Rattle.beta_fragment.proofs.TurnLemmas.{value-turn}
use Rattle.beta_fragment.proofs.head.turn_var.Goals as goal

pub value-requires : goal.value-requires
value-requires c = var-known c.args.heap.now c.args.head.index c.args.v c.is_sound.ensures c.requires.here

pub returns-in-Some-clause-turn : goal.returns-in-Some-clause-turn
returns-in-Some-clause-turn c = value-turn c.args.heap.now c.args.depth c.args.head.index c.in-Some.value.index c.args.v c.args.levels.now c.args.fixed c.args.args.now c.is_sound.ensures c.requires.here (sym c.in-Some.ensures.value) c.in-Some.ensures.valid c.requires.valid c.requires.moves

pub returns-in-Some-clause-grows : goal.returns-in-Some-clause-grows
returns-in-Some-clause-grows c = grows-refl c.args.heap.now []

pub var_depth-count-requires : goal.var_depth-count-requires
var_depth-count-requires c = var-known c.args.heap.now c.args.head.index c.args.v c.is_sound.ensures c.requires.here

pub flex-requires-clause-known : goal.flex-requires-clause-known
flex-requires-clause-known c = var-known c.args.heap.now c.args.head.index c.args.v c.is_sound.ensures c.requires.here

pub flex-requires-clause-open_at : goal.flex-requires-clause-open_at
flex-requires-clause-open_at c = subst (λ n. IsVarOf c.args.v.index n (value_of c.args.heap.now c.args.head)) (sym c.var_depth-count.ensures) (var-open c.args.heap.now c.args.head c.args.v c.is_sound.ensures c.requires.here (sym c.in_default.ensures.value))

pub flex-requires-clause-count : goal.flex-requires-clause-count
flex-requires-clause-count c =
    let low = var-low c.args.heap.now c.args.head.index c.args.v (length c.args.levels.now) c.is_sound.ensures c.requires.here c.requires.valid in
    let same = c.var_depth-count.ensures in
    omega (arith, low, same)
