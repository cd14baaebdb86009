use Rattle.std.proofs.Common.{◌≡◌, ◌∷◌, ◌∙◌, List, Option, MatchOption, sym, ap, ap₂, subst}
use Rattle.level_terms.specs.declared.node.Node.{Node}
use Rattle.ref_terms.specs.unification.Spine.{head_of}
use Rattle.ref_terms.specs.unification.Unification.{unify}
use Rattle.ref_terms.specs.search.Program.{Program}
use Rattle.ref_terms.specs.search.Branch.{Branch}
use Rattle.ref_terms.specs.search.State.{Alternative, Move}
use Rattle.ref_terms.specs.search.Next.{retry}
use Rattle.search_moves.specs.declared.frame.Left.TheVariants.{Call as LeftCall}
use Rattle.search_moves.specs.declared.machine.Event.{Event}
use Rattle.search_moves.specs.World.{code_nodes}
use Rattle.search_moves.specs.Reading.{left_at}
use Rattle.search_moves.specs.Machine.{branch_of, alternatives_of, HasMoved}
use Rattle.search_moves.proofs.MoveLemmas.{if-ok}
use Rattle.search_moves.proofs.machine.Machine.go_on_at.Goals as goal

pub go_on_with-requires-clause-code : goal.go_on_with-requires-clause-code
go_on_with-requires-clause-code g c = (c.requires.code.0, subst (λ (ns : List Node). g.C.Clauses.stands ns c.args.code.now c.requires.code.0) (sym c.arguments.ensures.code) c.requires.code.1)

pub go_on_with-requires-clause-head : goal.go_on_with-requires-clause-head
go_on_with-requires-clause-head g c = ap (λ x. head_of x.term) c.arguments.ensures.goal ∙ c.requires.head

pub arguments-requires-clause-head : goal.arguments-requires-clause-head
arguments-requires-clause-head g c = (c.args.c.0, c.requires.head)

pub returns-clause-moved : goal.returns-clause-moved
returns-clause-moved g c =
    let old = c.args.self.now in
    let m = c.arguments.new.self in
    let new = c.go_on_with.new.self in
    let left = LeftCall c.args.c c.args.later.now in
    if-ok c.go_on_with.result
    (λ (o : Option Event). (p : Program) → g.C.Clauses.stands (code_nodes m.world) c.args.code.now p → MatchOption o (retry unify p (left_at p (branch_of m) left ∷ alternatives_of p m) ≡ retry unify p (alternatives_of p new)) (λ e. HasMoved p (retry unify p (left_at p (branch_of m) left ∷ alternatives_of p m)) e new))
    (λ (o : Option Event). (p : Program) → g.C.Clauses.stands (code_nodes old.world) c.args.code.now p → MatchOption o (retry unify p (left_at p (branch_of old) left ∷ alternatives_of p old) ≡ retry unify p (alternatives_of p new)) (λ e. HasMoved p (retry unify p (left_at p (branch_of old) left ∷ alternatives_of p old)) e new))
    (λ o h p stands.
    let same = ap₂ (λ (b : Branch) (xs : List Alternative). retry unify p (left_at p b left ∷ xs)) c.arguments.ensures.branch (c.arguments.ensures.alternatives p) in
    subst (λ (x : Move). MatchOption o (x ≡ retry unify p (alternatives_of p new)) (λ e. HasMoved p x e new)) same (h p (subst (λ (ns : List Node). g.C.Clauses.stands ns c.args.code.now p) (sym c.arguments.ensures.code) stands)))
    c.go_on_with.ensures.moved
