use Rattle.std.proofs.Common.{◌≡◌, ◌-◌, suc, sym, ap, ◌∙◌, arith, length, take, drop, take-append-drop, ◌++◌, ◌∷◌, None}
use Rattle.dance_list.specs.Dance.{linked, first_of}
use Rattle.dance_list.proofs.Dances.{front-is, drop-more, nothing-first}
use Rattle.dance_list.proofs.iter.DanceIterIterator.next.Goals as goal

pub step-after-requires : goal.step-after-requires
step-after-requires g c =
    let i = c.self.inside in let all = linked i.list.now in let k = length all - i.left in
    let here = front-is (drop k all) c.in-Some.n (sym c.self.invariant.1 ∙ c.in-Some.is) in
    (take k all, here.0, here.1, sym (take-append-drop k all) ∙ ap (λ z. take k all ++ z) here.2)

pub invariant_of-self : goal.invariant_of-self
invariant_of-self g c =
    let i = c.self.inside in let all = linked i.list.now in let k = length all - i.left in
    let here = front-is (drop k all) c.in-Some.n (sym c.self.invariant.1 ∙ c.in-Some.is) in
    let split = sym (take-append-drop k all) ∙ ap (λ z. take k all ++ z) here.2 in
    let next : length all - (i.left - 1) ≡ suc k = omega (arith, c.self.invariant.0, c.if-self-eq0.false) in
    let rest = ap (λ j. drop j all) next ∙ drop-more k all (c.in-Some.n, here.0) here.1 here.2 in
    (omega (arith, c.self.invariant.0), (c.step-after.ensures (take k all) here.0 here.1 split).0 ∙ ap (λ z. first_of z None) (sym rest))

pub returns-in-None-clause-steps : goal.returns-in-None-clause-steps
returns-in-None-clause-steps g c =
    let i = c.self.inside in let all = linked i.list.now in let k = length all - i.left in
    let over = nothing-first (drop k all) (sym c.self.invariant.1 ∙ c.in-None.is) in
    (sym c.self.view_is ∙ over, sym c.self.view_is ∙ over)

pub returns-in-Some-clause-steps : goal.returns-in-Some-clause-steps
returns-in-Some-clause-steps g c =
    let i = c.self.inside in let all = linked i.list.now in let k = length all - i.left in
    let here = front-is (drop k all) c.in-Some.n (sym c.self.invariant.1 ∙ c.in-Some.is) in
    let split = sym (take-append-drop k all) ∙ ap (λ z. take k all ++ z) here.2 in
    let next : length all - (i.left - 1) ≡ suc k = omega (arith, c.self.invariant.0, c.if-self-eq0.false) in
    let rest = ap (λ j. drop j all) next ∙ drop-more k all (c.in-Some.n, here.0) here.1 here.2 in
    let item = (c.step-after.ensures (take k all) here.0 here.1 split).1 in
    sym c.self.view_is ∙ here.2 ∙ (λ j. (c.in-Some.n, sym item j) ∷ sym rest j)
