use Rattle.std.proofs.Common.{rules, ◌≡◌, ◌+◌, ℕ, [], sym, subst}
use Rattle.ref_terms.specs.terms.Term.{Term}
use Rattle.level_terms.specs.Reading.{read}
use Rattle.level_terms.proofs.GrowthLemmas.{grows-refl, grows-trans}
use Rattle.beta_fragment.specs.Names.{names}
use Rattle.beta_fragment.specs.HeadForm.{IsHeadForm}
use Rattle.hyp_clause.specs.inside.Parts.{task_of, seen, IsTurnOf}
use Rattle.hyp_clause.proofs.FormLemmas.{reads-grown}
use Rattle.hyp_clause.proofs.OkLemmas.{ok-map}
use Rattle.hyp_clause.proofs.PartLemmas.{part-grown, turn-later}
use Rattle.hyp_clause.proofs.reading.turn.Goals as goal

pub returns-in_err-under-clause-grows : goal.returns-in_err-under-clause-grows
returns-in_err-under-clause-grows c = grows-refl c.args.heap.now []

pub by_form-requires-clause-part : goal.by_form-requires-clause-part
by_form-requires-clause-part c = part-grown c.args.heap.now c.whnf.new.heap c.args.depth (task_of c.args.part.now) c.is_sound.ensures c.whnf.ensures.grows c.requires

pub by_form-requires-clause-form : goal.by_form-requires-clause-form
by_form-requires-clause-form c =
    let k = task_of c.args.part.now in
    let under : c.in_ok-under.under ≡ c.args.depth + k.pis = search rules in
    let same = reads-grown c.args.heap.now c.whnf.new.heap c.is_sound.ensures c.whnf.ensures.grows k.term.index (c.args.depth + k.pis) c.requires.term in
    subst (λ (d : ℕ). IsHeadForm c.whnf.new.heap d (read c.whnf.new.heap k.term.index names) c.in_ok-form.form) under
    (subst (λ (u : Term). IsHeadForm c.whnf.new.heap c.in_ok-under.under u c.in_ok-form.form) (sym same) c.in_ok-form.ensures.form)

pub returns-clause-turn : goal.returns-clause-turn
returns-clause-turn c =
    let k = task_of c.args.part.now in
    ok-map c.by_form.result (λ w. IsTurnOf c.whnf.new.heap c.by_form.new.heap c.args.depth k (seen w)) (λ w. IsTurnOf c.args.heap.now c.by_form.new.heap c.args.depth k (seen w))
    (λ w e. turn-later c.args.heap.now c.whnf.new.heap c.by_form.new.heap c.args.depth k (seen w) c.is_sound.ensures c.whnf.ensures.grows c.requires e) c.by_form.ensures.turn

pub returns-clause-grows : goal.returns-clause-grows
returns-clause-grows c = grows-trans c.args.heap.now c.whnf.new.heap c.by_form.new.heap [] [] [] c.whnf.ensures.grows c.by_form.ensures.grows
