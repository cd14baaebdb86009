use Rattle.std.proofs.Common.{◌∙◌, ℕ, List, Bool, cond, Some, None, length, option_and_then, sym, subst, ap, ap₂, eq-eqb, ne_eqb}
use Rattle.ref_terms.specs.search.Joint.{identified, paired}
use Rattle.beta_fragment.specs.Names.{AllBelow}
use Rattle.eigen_align.proofs.identifying.identify_one.Goals as goal

pub returns-then-not-same-clause-identified : goal.returns-then-not-same-clause-identified
returns-then-not-same-clause-identified c =
    sym (ap (λ (b : Bool). option_and_then (λ ps. identified c.args.map.now ps (Some c.args.names.now.items)) (cond b (paired c.args.left.now.names.items c.args.right.now.names.items) None)) (ne_eqb c.args.left.now.variable.index c.args.right.now.variable.index c.if-not-same.true))

pub identify-requires-clause-left : goal.identify-requires-clause-left
identify-requires-clause-left c = subst (λ (ns : List ℕ). AllBelow ns (length c.args.map.now)) (sym c.as_slice.ensures.value) c.requires.left

pub identify-requires-clause-right : goal.identify-requires-clause-right
identify-requires-clause-right c = subst (λ (ns : List ℕ). AllBelow ns (length c.args.names.now.items)) (sym c.as_slice-2.ensures.value) c.requires.right

pub returns-clause-identified : goal.returns-clause-identified
returns-clause-identified c =
    c.identify.ensures.identified
    ∙ ap₂ (λ (xs ys : List ℕ). option_and_then (λ ps. identified c.args.map.now ps (Some c.args.names.now.items)) (paired xs ys)) c.as_slice.ensures.value c.as_slice-2.ensures.value
    ∙ sym (ap (λ (b : Bool). option_and_then (λ ps. identified c.args.map.now ps (Some c.args.names.now.items)) (cond b (paired c.args.left.now.names.items c.args.right.now.names.items) None)) (eq-eqb c.args.left.now.variable.index c.args.right.now.variable.index c.if-not-same.false))
