use Rattle.std.proofs.Common.{◌∷◌, [], arith}
use Rattle.level_terms.proofs.GrowthLemmas.{grows-trans}
use Rattle.level_terms.proofs.MakeLemmas.{grown-length}
use Rattle.level_terms.proofs.ReadLemmas.{valid-below}
use Rattle.beta_fragment.proofs.AppliedNodes.{IsMadeWith, IsApplied, first-applied, applied-reads, applied-valid, first-made_unreached}
use Rattle.beta_fragment.proofs.body.with_first.Goals.{After-is_sound-3}
use Rattle.beta_fragment.proofs.body.with_first.Goals as goal

pub app-requires-clause-head : goal.app-requires-clause-head
app-requires-clause-head c =
    let below = valid-below c.args.heap.now c.args.t.index c.args.depth c.requires.valid in
    let more = grown-length c.args.heap.now c.level.new.self c.level.ensures.grows in
    omega (arith, below, more)

-- the two nodes that are made
made : (c : After-is_sound-3) → IsMadeWith c.args.heap.now c.level.new.self c.app.new.self c.in_ok-name.name c.in_ok-r.r c.args.t (c.in_ok-name.name ∷ []) c.args.depth
made c = record {
  sound = c.is_sound.ensures;
  sound_one = c.is_sound-2.ensures;
  sound_new = c.is_sound-3.ensures;
  name_at = c.in_ok-name.ensures.ok.0;
  one_is = c.in_ok-name.ensures.ok.1;
  at = c.in_ok-r.ensures.ok.0;
  new_is = c.in_ok-r.ensures.ok.1;
}

-- and how they apply the term
applies : (c : After-is_sound-3) → IsApplied c.args.heap.now c.level.new.self c.app.new.self c.args.t c.in_ok-name.name c.in_ok-r.r c.args.depth
applies c =
    let below = valid-below c.args.heap.now c.args.t.index c.args.depth c.requires.valid in
    let more = grown-length c.args.heap.now c.level.new.self c.level.ensures.grows in
    first-applied c.args.heap.now c.level.new.self c.app.new.self c.args.t c.in_ok-name.name c.in_ok-r.r c.args.depth (made c) c.requires.valid (omega (arith, below, more))

pub returns-clause-reads : goal.returns-clause-reads
returns-clause-reads c = applied-reads c.args.heap.now c.level.new.self c.app.new.self c.args.t c.in_ok-name.name c.in_ok-r.r c.args.depth (applies c)

pub returns-clause-valid : goal.returns-clause-valid
returns-clause-valid c = applied-valid c.args.heap.now c.level.new.self c.app.new.self c.args.t c.in_ok-name.name c.in_ok-r.r c.args.depth (applies c)

pub returns-clause-unreached : goal.returns-clause-unreached
returns-clause-unreached c = first-made_unreached c.args.heap.now c.level.new.self c.app.new.self c.args.t c.in_ok-name.name c.in_ok-r.r c.args.depth (made c) c.requires.valid

pub returns-clause-grows : goal.returns-clause-grows
returns-clause-grows c = grows-trans c.args.heap.now c.level.new.self c.app.new.self [] [] [] c.level.ensures.grows c.app.ensures.grows
