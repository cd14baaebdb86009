use Rattle.std.proofs.Common.{◌∙◌, ap, sym, subst, refl, Some, List, length, ◌-◌}
use Rattle.level_terms.specs.declared.node.Node.TheVariants.{App}
use Rattle.level_terms.specs.declared.node.TermId.{TermId}
use Rattle.level_terms.specs.Sound.{AllOlder}
use Rattle.level_terms.proofs.ValidLemmas.{valid_deeper}
use Rattle.level_terms.proofs.MakeLemmas.{parts-there, older-last}
use Rattle.beta_fragment.proofs.VarLemmas.{var-known}
use Rattle.beta_fragment.proofs.StayLemmas.{var-stays, last-valid}
use Rattle.beta_fragment.proofs.LevelLemmas.{repeats-ends}
use Rattle.beta_fragment.specs.Firm.{SomeHas}
use Rattle.std.proofs.Common.{take}
use Rattle.beta_fragment.proofs.FirmLemmas.{low-ends, app-ends, level-ends, leaf-ends, last-split}
use Rattle.beta_fragment.proofs.glance.ends_otherwise.Goals as goal

pub var_depth-requires : goal.var_depth-requires
var_depth-requires c = var-known c.args.heap.now c.args.t.index c.in-Var.v c.is_sound.ensures (c.view.ensures ∙ ap Some c.in-Var.is)

pub is_plain-requires : goal.is_plain-requires
is_plain-requires c = (parts-there c.args.heap.now c.args.t.index _ c.is_sound.ensures (c.view.ensures ∙ ap Some c.in-App.is)).0

pub is_other-requires : goal.is_other-requires
is_other-requires c =
    let here = c.view.ensures ∙ ap Some c.in-App.is ∙ ap (λ (ts : List TermId). Some (App c.in-App.head ts)) (sym c.as_slice.ensures) in
    let split = last-split c.as_slice.result.now c.in-Some.last.now c.in-Some.ensures.value in
    older-last (length c.args.heap.now.nodes) split.0 c.in-Some.last.now (subst (AllOlder (length c.args.heap.now.nodes)) split.1 (parts-there c.args.heap.now c.args.t.index (App c.in-App.head c.as_slice.result.now) c.is_sound.ensures here).1)

pub returns-in-Con : goal.returns-in-Con
returns-in-Con c = λ q s v. leaf-ends c.args.heap.now c.args.t.index c.args.depth _ c.is_sound.ensures (c.view.ensures ∙ ap Some c.in-Con.is) (λ env. refl)

pub returns-in-Int : goal.returns-in-Int
returns-in-Int c = λ q s v. leaf-ends c.args.heap.now c.args.t.index c.args.depth _ c.is_sound.ensures (c.view.ensures ∙ ap Some c.in-Int.is) (λ env. refl)

pub returns-in-Str : goal.returns-in-Str
returns-in-Str c = λ q s v. leaf-ends c.args.heap.now c.args.t.index c.args.depth _ c.is_sound.ensures (c.view.ensures ∙ ap Some c.in-Str.is) (λ env. refl)

pub returns-in-Level : goal.returns-in-Level
returns-in-Level c = λ q s v. level-ends c.args.heap.now c.args.t.index c.args.depth _ c.is_sound.ensures (c.view.ensures ∙ ap Some c.in-Level.is)

pub returns-in-Var : goal.returns-in-Var
returns-in-Var c = λ q s v. low-ends c.args.heap.now c.args.t.index c.args.depth c.is_sound.ensures (valid_deeper c.args.heap.now c.args.t.index c.var_depth.result c.args.depth (var-stays c.args.heap.now c.args.t.index c.in-Var.v c.var_depth.result s c.is_sound.ensures (c.view.ensures ∙ ap Some c.in-Var.is) c.var_depth.ensures v) (c.is_within.ensures q))

pub front_has_level-requires : goal.front_has_level-requires
front_has_level-requires c = (parts-there c.args.heap.now c.args.t.index (App c.in-App.head c.as_slice-in-Some.result.now) c.is_sound.ensures (c.view.ensures ∙ ap Some c.in-App.is ∙ ap (λ (ts : List TermId). Some (App c.in-App.head ts)) (sym c.as_slice-in-Some.ensures))).1

pub returns-then-is_other : goal.returns-then-is_other
returns-then-is_other c = λ q s v.
    let here = c.view.ensures ∙ ap Some c.in-App.is ∙ ap (λ (ts : List TermId). Some (App c.in-App.head ts)) (sym c.as_slice.ensures) in
    let split = last-split c.as_slice.result.now c.in-Some.last.now c.in-Some.ensures.value in
    app-ends c.args.heap.now c.args.t.index c.args.depth c.in-App.head c.in-Some.last.now c.as_slice.result.now split.0 c.is_sound.ensures here split.1 (c.is_plain.ensures c.if-not-is_plain.false)
    (c.is_other.ensures c.if-is_other.true s (last-valid c.args.heap.now c.args.t.index s c.in-App.head c.in-Some.last.now c.as_slice.result.now split.0 c.is_sound.ensures here split.1 v))

pub returns-else-is_other : goal.returns-else-is_other
returns-else-is_other c = λ q s v.
    let here = c.view.ensures ∙ ap Some c.in-App.is ∙ ap (λ (ts : List TermId). Some (App c.in-App.head ts)) (sym c.as_slice.ensures) in
    let split = last-split c.as_slice.result.now c.in-Some.last.now c.in-Some.ensures.value in
    repeats-ends c.args.heap.now c.args.t.index c.args.depth c.in-App.head c.in-Some.last.now c.as_slice.result.now split.0 c.is_sound.ensures here split.1 (c.is_plain.ensures c.if-not-is_plain.false)
    (subst (λ (ts : List TermId). SomeHas c.args.heap.now c.args.depth (take (length ts - 1) ts)) (c.as_slice-in-Some.ensures ∙ sym c.as_slice.ensures) (c.front_has_level.ensures q))
