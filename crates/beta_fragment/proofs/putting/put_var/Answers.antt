use Rattle.std.proofs.Common.{◌≡◌, [], List, length, map, sym, ◌∙◌, subst, arith, slice_index}
use Rattle.std.proofs.lemmas.List.{length-map}
use Rattle.std.proofs.lemmas.Result.{IfOk-weaker}
use Rattle.level_terms.specs.Sound.{IsHead}
use Rattle.level_terms.specs.Reading.{read}
use Rattle.level_terms.specs.declared.node.TermId.{TermId}
use Rattle.level_terms.proofs.GrowthLemmas.{grows-trans}
use Rattle.level_terms.proofs.ValidLemmas.{growth_keeps_valid}
use Rattle.level_terms.specs.Values.{Value, value_of, IsVarOf, IsAppOf}
use Rattle.beta_fragment.specs.Moves.{IsPutVar}
use Rattle.level_terms.proofs.ReadLemmas.{valid-below, grown-reads}
use Rattle.level_terms.proofs.MakeLemmas.{value-kept, grown-length}
use Rattle.beta_fragment.proofs.MoveLemmas.{node-after}
use Rattle.beta_fragment.proofs.PutLemmas.{put-var-applied}
use Rattle.beta_fragment.proofs.putting.put_var.Goals as goal

pub put_levels-requires : goal.put_levels-requires
put_levels-requires c = growth_keeps_valid c.args.heap.now c.bare_var.new.heap [] [] c.args.put.index c.args.level c.is_sound.ensures c.bare_var.ensures.grows (valid-below c.args.heap.now c.args.put.index c.args.level c.requires.put) c.requires.put

pub returns-in_err-args-clause-grows : goal.returns-in_err-args-clause-grows
returns-in_err-args-clause-grows c = grows-trans c.args.heap.now c.bare_var.new.heap c.put_levels.new.heap [] [] [] c.bare_var.ensures.grows c.put_levels.ensures.grows

pub made_app-requires-clause-head : goal.made_app-requires-clause-head
made_app-requires-clause-head c =
    let there = c.in_ok-head.ensures.there in
    let more = grown-length c.bare_var.new.heap c.put_levels.new.heap c.put_levels.ensures.grows in
    omega (arith, there, more)

pub made_app-requires-clause-no_application : goal.made_app-requires-clause-no_application
made_app-requires-clause-no_application c = subst IsHead (sym (node-after c.bare_var.new.heap c.put_levels.new.heap c.put_levels.ensures.grows c.in_ok-head.head.index c.in_ok-head.ensures.there)) c.in_ok-head.ensures.head

pub returns-clause-var : goal.returns-clause-var
returns-clause-var c =
    let same = value-kept c.bare_var.new.heap c.put_levels.new.heap c.is_sound-2.ensures c.put_levels.ensures.grows c.in_ok-head.head c.in_ok-head.ensures.there in
    let reader = grown-reads c.args.heap.now c.bare_var.new.heap c.is_sound.ensures c.bare_var.ensures.grows c.args.put.index (valid-below c.args.heap.now c.args.put.index c.args.level c.requires.put) in
    let long : length (map (value_of c.put_levels.new.heap) c.in_ok-args.args.items) ≡ slice_index c.args.heap.now.depths c.args.v.index = length-map c.in_ok-args.args.items (value_of c.put_levels.new.heap) ∙ c.in_ok-args.ensures.count ∙ c.var_depth-depth.ensures in
    IfOk-weaker c.made_app.result _ _
    (λ r w. subst (λ f. IsPutVar f c.args.level c.args.v.index (slice_index c.args.heap.now.depths c.args.v.index) (value_of c.made_app.new.heap r)) reader
    (put-var-applied (read c.bare_var.new.heap c.args.put.index) c.args.level c.args.v.index (slice_index c.args.heap.now.depths c.args.v.index) (value_of c.put_levels.new.heap c.in_ok-head.head) (value_of c.made_app.new.heap r) (map (value_of c.put_levels.new.heap) c.in_ok-args.args.items)
    (subst (λ (x : Value). IsVarOf c.args.v.index 0 x) (sym same) c.in_ok-head.ensures.open) c.in_ok-args.ensures.levels long
    (subst (λ (ts : List TermId). IsAppOf (value_of c.put_levels.new.heap c.in_ok-head.head) (map (value_of c.put_levels.new.heap) ts) (value_of c.made_app.new.heap r)) c.as_slice.ensures.value w)))
    c.made_app.ensures.app

pub returns-clause-grows : goal.returns-clause-grows
returns-clause-grows c = grows-trans c.args.heap.now c.put_levels.new.heap c.made_app.new.heap [] [] [] (grows-trans c.args.heap.now c.bare_var.new.heap c.put_levels.new.heap [] [] [] c.bare_var.ensures.grows c.put_levels.ensures.grows) c.made_app.ensures.grows
