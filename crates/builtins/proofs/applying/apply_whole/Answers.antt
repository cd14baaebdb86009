use Rattle.std.proofs.Common.{◌≡◌, [], sym, subst, IfOk}
use Rattle.level_terms.specs.Reading.{read}
use Rattle.level_terms.proofs.GrowthLemmas.{grows-trans}
use Rattle.level_terms.proofs.ValidLemmas.{growth_keeps_readings, growth_keeps_valid}
use Rattle.ref_terms.specs.terms.Term.{Term}
use Rattle.ref_terms.specs.search.BranchMove.{applied_whole}
use Rattle.beta_fragment.specs.HeadForm.{IsHeadForm}
use Rattle.beta_fragment.specs.Names.{names}
use Rattle.level_terms.proofs.ReadLemmas.{valid-below}
use Rattle.builtins.proofs.applying.apply_whole.Goals as goal

pub by_form-requires-clause-form : goal.by_form-requires-clause-form
by_form-requires-clause-form c =
    subst (λ (u : Term). IsHeadForm c.whnf.new.heap c.args.depth u c.in_ok-form.form)
    (sym (growth_keeps_readings c.args.heap.now c.whnf.new.heap c.args.f.index names c.is_sound.ensures c.whnf.ensures.grows (valid-below c.args.heap.now c.args.f.index c.args.depth c.requires.function))) c.in_ok-form.ensures.form

pub by_form-requires-clause-function : goal.by_form-requires-clause-function
by_form-requires-clause-function c = growth_keeps_valid c.args.heap.now c.whnf.new.heap [] [] c.args.f.index c.args.depth c.is_sound.ensures c.whnf.ensures.grows (valid-below c.args.heap.now c.args.f.index c.args.depth c.requires.function) c.requires.function

pub by_form-requires-clause-argument : goal.by_form-requires-clause-argument
by_form-requires-clause-argument c = growth_keeps_valid c.args.heap.now c.whnf.new.heap [] [] c.args.a.index c.args.depth c.is_sound.ensures c.whnf.ensures.grows (valid-below c.args.heap.now c.args.a.index c.args.depth c.requires.argument) c.requires.argument

pub returns-clause-reads : goal.returns-clause-reads
returns-clause-reads c =
    subst (λ (u : Term). IfOk c.by_form.result (λ r. read c.by_form.new.heap r.index names ≡ applied_whole u (read c.args.heap.now c.args.a.index names)))
    (growth_keeps_readings c.args.heap.now c.whnf.new.heap c.args.f.index names c.is_sound.ensures c.whnf.ensures.grows (valid-below c.args.heap.now c.args.f.index c.args.depth c.requires.function))
    (subst (λ (x : Term). IfOk c.by_form.result (λ r. read c.by_form.new.heap r.index names ≡ applied_whole (read c.whnf.new.heap c.args.f.index names) x))
    (growth_keeps_readings c.args.heap.now c.whnf.new.heap c.args.a.index names c.is_sound.ensures c.whnf.ensures.grows (valid-below c.args.heap.now c.args.a.index c.args.depth c.requires.argument)) c.by_form.ensures.reads)

pub returns-clause-grows : goal.returns-clause-grows
returns-clause-grows c = grows-trans c.args.heap.now c.whnf.new.heap c.by_form.new.heap [] [] [] c.whnf.ensures.grows c.by_form.ensures.grows
