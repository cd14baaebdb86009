use Rattle.std.proofs.Common.{[], refl, arith}
use Rattle.std.proofs.lemmas.Result.{IfOk-weaker}
use Rattle.level_terms.specs.Reading.{read}
use Rattle.level_terms.proofs.GrowthLemmas.{grows-refl}
use Rattle.level_terms.proofs.ValidLemmas.{valid_deeper}
use Rattle.level_terms.specs.Values.{value_of}
use Rattle.level_terms.proofs.ReadLemmas.{valid-below}
use Rattle.beta_fragment.proofs.PutLemmas.{put-low, put-here, put-high}
use Rattle.beta_fragment.proofs.putting.put_level.Goals as goal

pub returns-then-i-level : goal.returns-then-i-level
returns-then-i-level c = record {
  level = IfOk-weaker c.made_level.result _ _ (λ r w. put-low (read c.args.heap.now c.args.put.index) c.args.level c.args.i (value_of c.made_level.new.heap r) c.if-i-level.true w) c.made_level.ensures.level;
  there = c.made_level.ensures.there;
  variables = c.made_level.ensures.variables;
  grows = c.made_level.ensures.grows;
}

pub returns-then-i-level-2 : goal.returns-then-i-level-2
returns-then-i-level-2 c = record {
  level = put-here (read c.args.heap.now c.args.put.index) c.args.level c.args.i (value_of c.args.heap.now c.args.put) c.if-i-level-2.true refl (λ e l. valid_deeper c.args.heap.now c.args.put.index c.args.level e c.requires l);
  there = valid-below c.args.heap.now c.args.put.index c.args.level c.requires;
  variables = refl;
  grows = grows-refl c.args.heap.now [];
}

pub returns : goal.returns
returns c = record {
  level = IfOk-weaker c.made_level-2.result _ _ (λ r w. put-high (read c.args.heap.now c.args.put.index) c.args.level c.args.i (value_of c.made_level-2.new.heap r) (let a = c.if-i-level.false in let b = c.if-i-level-2.false in omega (arith, a, b)) w) c.made_level-2.ensures.level;
  there = c.made_level-2.ensures.there;
  variables = c.made_level-2.ensures.variables;
  grows = c.made_level-2.ensures.grows;
}
