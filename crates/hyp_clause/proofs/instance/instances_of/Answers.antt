use Rattle.std.proofs.Common.{◌∙◌, ◌+◌, List, [], length, refl, sym, ap₂, subst}
use Rattle.ref_terms.specs.terms.Term.{Term}
use Rattle.ref_terms.specs.terms.Apply.{fill}
use Rattle.level_terms.proofs.GrowthLemmas.{grows-refl, grows-trans}
use Rattle.beta_fragment.specs.HeadForm.{all_read}
use Rattle.beta_fragment.specs.Instantiation.{put_names, AllPlain}
use Rattle.beta_fragment.proofs.HeadLemmas.{valid-grown_all, read-grown_all}
use Rattle.hyp_clause.proofs.FormLemmas.{reads-grown}
use Rattle.hyp_clause.proofs.InstanceLemmas.{IsInstanced, instanced-none, instanced-more, valid-at}
use Rattle.hyp_clause.proofs.instance.instances_of.Goals as goal

pub loop-i-init : goal.loop-i-init
loop-i-init c =
    let none = instanced-none c.args.heap.now (put_names c.args.from (all_read c.args.heap.now c.args.puts.now)) c.args.to c.args.terms.now c.new-instances.result.items c.new-instances.ensures.items in
    record { reads = none.reads; valid = none.valid; variables = refl; grows = grows-refl c.args.heap.now [] }

pub instance_of-requires-clause-valid : goal.instance_of-requires-clause-valid
instance_of-requires-clause-valid c =
    valid-at c.loop-i.heap (c.args.from + length c.args.puts.now) c.args.terms.now c.loop-i.i (record { index = 0 })
    (valid-grown_all c.args.heap.now c.loop-i.heap (c.args.from + length c.args.puts.now) c.is_sound.ensures c.loop-i.invariant.grows c.args.terms.now c.requires.terms) c.loop-i-test.true

pub instance_of-requires-clause-puts : goal.instance_of-requires-clause-puts
instance_of-requires-clause-puts c = valid-grown_all c.args.heap.now c.loop-i.heap c.args.to c.is_sound.ensures c.loop-i.invariant.grows c.args.puts.now c.requires.puts

pub instance_of-requires-clause-plain : goal.instance_of-requires-clause-plain
instance_of-requires-clause-plain c =
    subst AllPlain (sym (read-grown_all c.args.heap.now c.loop-i.heap c.args.to c.is_sound.ensures c.loop-i.invariant.grows c.args.puts.now c.requires.puts)) c.requires.plain

pub returns-in_err-r-clause-grows : goal.returns-in_err-r-clause-grows
returns-in_err-r-clause-grows c = grows-trans c.args.heap.now c.loop-i.heap c.instance_of.new.heap [] [] [] c.loop-i.invariant.grows c.instance_of.ensures.grows

pub returns-in_err-push-clause-grows : goal.returns-in_err-push-clause-grows
returns-in_err-push-clause-grows c = grows-trans c.args.heap.now c.loop-i.heap c.instance_of.new.heap [] [] [] c.loop-i.invariant.grows c.instance_of.ensures.grows

pub loop-i-preserved : goal.loop-i-preserved
loop-i-preserved c =
    let old = c.args.heap.now in
    let terms = c.args.terms.now in
    let under = c.args.from + length c.args.puts.now in
    let filled = put_names c.args.from (all_read old c.args.puts.now) in
    let i = c.loop-i.invariant in
    let before : IsInstanced old c.loop-i.heap filled c.args.to terms c.loop-i.instances.items c.loop-i.i = record { reads = i.reads; valid = i.valid } in
    let here = valid-at old under terms c.loop-i.i (record { index = 0 }) c.requires.terms c.loop-i-test.true in
    let puts = read-grown_all old c.loop-i.heap c.args.to c.is_sound.ensures i.grows c.args.puts.now c.requires.puts in
    let reads = c.in_ok-r.ensures.reads ∙ ap₂ (λ (ps : List Term) (u : Term). fill (put_names c.args.from ps) u) puts (reads-grown old c.loop-i.heap c.is_sound.ensures i.grows _ under here) in
    let after = instanced-more old c.loop-i.heap c.instance_of.new.heap filled c.args.to terms c.loop-i.instances.items c.push.new.self.items c.loop-i.i (record { index = 0 }) c.in_ok-r.r c.is_sound-in-loop-i.ensures c.instance_of.ensures.grows before c.in_ok-push.ensures.items c.loop-i-test.true reads c.in_ok-r.ensures.valid in
    record { reads = after.reads; valid = after.valid; variables = c.instance_of.ensures.variables ∙ i.variables; grows = grows-trans old c.loop-i.heap c.instance_of.new.heap [] [] [] i.grows c.instance_of.ensures.grows }
