use Rattle.std.proofs.Common.{◌≡◌, ◌+◌, [], List, length, map, refl, sym, ap, ap₂, ◌∙◌, subst}
use Rattle.std.proofs.lemmas.List.{length-map}
use Rattle.std.proofs.lemmas.Result.{IfOk-weaker}
use Rattle.level_terms.specs.Reading.{read}
use Rattle.level_terms.proofs.GrowthLemmas.{grows-trans}
use Rattle.ref_terms.specs.terms.Term.{Term}
use Rattle.ref_terms.specs.terms.Apply.{fill}
use Rattle.beta_fragment.specs.Names.{names}
use Rattle.beta_fragment.specs.HeadForm.{all_read}
use Rattle.beta_fragment.specs.Instantiation.{put_names, AllPlain}
use Rattle.beta_fragment.proofs.HeadLemmas.{valid-grown_all, read-grown_all}
use Rattle.beta_fragment.proofs.instantiating.instantiate.Goals as goal

pub put_all-requires-clause-puts : goal.put_all-requires-clause-puts
put_all-requires-clause-puts c = valid-grown_all c.args.heap.now c.with_stand_ins.new.heap c.args.to c.is_sound.ensures c.with_stand_ins.ensures.grows c.args.puts.now c.requires.puts

pub put_all-requires-clause-plain : goal.put_all-requires-clause-plain
put_all-requires-clause-plain c = subst AllPlain (sym (read-grown_all c.args.heap.now c.with_stand_ins.new.heap c.args.to c.is_sound.ensures c.with_stand_ins.ensures.grows c.args.puts.now c.requires.puts)) c.requires.plain

pub returns-clause-reads : goal.returns-clause-reads
returns-clause-reads c = IfOk-weaker c.put_all.result _ _
    (λ r e. e
    ∙ ap (λ (ss : List Term). fill (put_names c.args.to ss) (read c.with_stand_ins.new.heap c.in_ok-named.named.index names)) (read-grown_all c.args.heap.now c.with_stand_ins.new.heap c.args.to c.is_sound.ensures c.with_stand_ins.ensures.grows c.args.puts.now c.requires.puts)
    ∙ c.in_ok-named.ensures.reads (all_read c.args.heap.now c.args.puts.now) (length-map c.args.puts.now (λ t. read c.args.heap.now t.index names)))
    c.put_all.ensures.reads

pub returns-clause-grows : goal.returns-clause-grows
returns-clause-grows c = grows-trans c.args.heap.now c.with_stand_ins.new.heap c.put_all.new.heap [] [] [] c.with_stand_ins.ensures.grows c.put_all.ensures.grows
