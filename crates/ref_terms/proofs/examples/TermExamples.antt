-- Application, abstraction and instance.
use Rattle.std.proofs.Common.{◌≡◌, refl}
use Rattle.ref_terms.specs.terms.Term.{Lam}
use Rattle.ref_terms.specs.terms.Eta.{lam}
use Rattle.ref_terms.specs.terms.Ready.{ready}
use Rattle.ref_terms.specs.terms.Apply.{apply, open_with}
use Rattle.ref_terms.specs.terms.Instance.{inst}
use Rattle.ref_terms.specs.unification.Closing.{close}
use Rattle.ref_terms.proofs.examples.Setting.{◌·◌, X, Y, f, a, b, x, y, i0, i1, i2}

-- an abstraction applied to a name: its bound name is replaced, and the index further out comes nearer
applied_to_name : apply (Lam (f · i0 · i1)) x ≡ f · x · i0
unfolding ready
applied_to_name = refl

-- the same under one more abstraction
applied_under : apply (Lam (Lam (f · i0 · i1 · i2))) x ≡ Lam (f · i0 · x · i1)
unfolding ready
applied_under = refl

-- an abstraction applied to an index that is bound further out
applied_to_index : apply (Lam (f · i0)) i1 ≡ f · i1
unfolding ready
applied_to_index = refl

-- an abstraction applied to a constant, or to a name with an argument
applied_to_constant : apply (Lam (f · i0 · i0)) a ≡ f · a · a
unfolding ready
applied_to_constant = refl

applied_to_application : apply (Lam (f · i0 · i0)) (x · y) ≡ f · (x · y) · (x · y)
unfolding ready
applied_to_application = refl

-- an argument that becomes a head is only applied
applied_at_head : apply (Lam (i0 · a)) (f · b) ≡ f · b · a
unfolding ready
applied_at_head = refl

-- an abstraction applied to a variable, to one with an argument, or to an abstraction gets stuck, also before further arguments

stuck_at_variable : apply (apply (Lam i0) Y) x ≡ Lam i0 · Y · x
unfolding ready
stuck_at_variable = refl

stuck_at_application : apply (Lam i0) (Y · x) ≡ Lam i0 · (Y · x)
unfolding ready
stuck_at_application = refl

stuck_at_abstraction : apply (Lam i0) (Lam (f · i0 · i0)) ≡ Lam i0 · Lam (f · i0 · i0)
unfolding ready
stuck_at_abstraction = refl

-- a head with arguments gets one more
one_more : apply (f · a) b ≡ f · a · b
one_more = refl

-- z\ f x z is f x
contracted : lam (f · x · i0) ≡ f · x
contracted = refl

-- z\ f z z and z\ f z x aren't contracted
occurs_twice : lam (f · i0 · i0) ≡ Lam (f · i0 · i0)
occurs_twice = refl

not_last : lam (f · i0 · x) ≡ Lam (f · i0 · x)
not_last = refl

-- y\ z\ f y z is f
contracted_twice : lam (lam (f · i1 · i0)) ≡ f
contracted_twice = refl

-- a stuck redex whose argument becomes a name reduces; so does one whose argument becomes a constant, and one whose argument is headed by a variable stays
reduces : inst 1 x (Lam (f · i0 · i0) · Y) ≡ f · x · x
unfolding ready
reduces = refl

reduces_at_constant : inst 1 a (Lam (f · i0 · i0) · Y) ≡ f · a · a
unfolding ready
reduces_at_constant = refl

stays_stuck : inst 1 (X · x) (Lam (f · i0 · i0) · Y) ≡ Lam (f · i0 · i0) · (X · x)
unfolding ready
stays_stuck = refl

-- a value that is an abstraction is applied, and another variable stays
value_applied : inst 1 (Lam (f · i0 · i0)) (Y · x) ≡ f · x · x
unfolding ready
value_applied = refl

another_stays : inst 0 a (Y · x) ≡ Y · x
another_stays = refl

-- an instance contracts abstractions by η: z\ Y z x, where Y is u\ v\ f u
instance_contracted : inst 1 (Lam (Lam (f · i1))) (Lam (Y · i0 · x)) ≡ f
unfolding ready
instance_contracted = refl

-- opening with a variable rebuilds: the redex gets stuck
opened_with_variable : open_with (f · (Lam i0 · i0)) Y ≡ f · (Lam i0 · Y)
unfolding ready
opened_with_variable = refl

-- abstracting a name, with η
name_abstracted : close 0 (f · x · y) ≡ Lam (f · i0 · y)
name_abstracted = refl

name_contracted : close 1 (f · x · y) ≡ f · x
name_contracted = refl
