use Rattle.level_terms.specs.Graph.{Graph}
use Rattle.level_terms.specs.Valid.{IsValid}
use Rattle.std.proofs.Common.{sym, subst}
use Rattle.term_rows.proofs.BuildLemmas.{IsExample, example-made, example-value, example-unreached, example-newest}
use Rattle.term_rows.proofs.printing.assigned.Goals as goal

-- the heap before the assignment
example-before : (c : goal.After-assign-arg-2-1) → IsExample c.args.f c.app-2.new.self c.in_ok-v.v c.in_ok-lam.lam c.in_ok-term.term
example-before c = example-made c.args.f c.args.heap.now c.fresh_var.new.self c.con.new.self c.level.new.self c.app.new.self c.lam.new.self c.var.new.self c.app-2.new.self
    c.in_ok-v.v c.in_ok-head.head c.in_ok-x.x c.in_ok-body.body c.in_ok-lam.lam c.in_ok-y.y c.in_ok-term.term c.as_slice.result.now c.as_slice-2.result.now
    c.requires c.in_ok-v.ensures.ok.0 c.in_ok-v.ensures.ok.1 c.in_ok-head.ensures.ok.0 c.in_ok-head.ensures.ok.1 c.in_ok-x.ensures.ok.0 c.in_ok-x.ensures.ok.1
    c.as_slice.ensures c.in_ok-body.ensures.ok.0 c.in_ok-body.ensures.ok.1 c.in_ok-lam.ensures.ok.0 c.in_ok-lam.ensures.ok.1
    c.in_ok-y.ensures.ok.0 c.in_ok-y.ensures.ok.1 c.as_slice-2.ensures c.in_ok-term.ensures.ok.0 c.in_ok-term.ensures.ok.1

-- the same, seen from after it
example-after : (c : goal.After-assign) → IsExample c.args.f c.app-2.new.self c.in_ok-v.v c.in_ok-lam.lam c.in_ok-term.term
example-after c = example-made c.args.f c.args.heap.now c.fresh_var.new.self c.con.new.self c.level.new.self c.app.new.self c.lam.new.self c.var.new.self c.app-2.new.self
    c.in_ok-v.v c.in_ok-head.head c.in_ok-x.x c.in_ok-body.body c.in_ok-lam.lam c.in_ok-y.y c.in_ok-term.term c.as_slice.result.now c.as_slice-2.result.now
    c.requires c.in_ok-v.ensures.ok.0 c.in_ok-v.ensures.ok.1 c.in_ok-head.ensures.ok.0 c.in_ok-head.ensures.ok.1 c.in_ok-x.ensures.ok.0 c.in_ok-x.ensures.ok.1
    c.as_slice.ensures c.in_ok-body.ensures.ok.0 c.in_ok-body.ensures.ok.1 c.in_ok-lam.ensures.ok.0 c.in_ok-lam.ensures.ok.1
    c.in_ok-y.ensures.ok.0 c.in_ok-y.ensures.ok.1 c.as_slice-2.ensures c.in_ok-term.ensures.ok.0 c.in_ok-term.ensures.ok.1

pub assign-requires-clause-valid : goal.assign-requires-clause-valid
assign-requires-clause-valid c = example-value c.args.f c.app-2.new.self c.in_ok-v.v c.in_ok-lam.lam c.in_ok-term.term (example-before c)

pub assign-requires-clause-unreached : goal.assign-requires-clause-unreached
assign-requires-clause-unreached c = example-unreached c.args.f c.app-2.new.self c.in_ok-v.v c.in_ok-lam.lam c.in_ok-term.term (example-before c)

pub returns : goal.returns
returns c = subst (λ (g : Graph). IsValid g c.in_ok-term.term.index 1) (sym c.assign.ensures.heap) (example-newest c.args.f c.app-2.new.self c.in_ok-v.v c.in_ok-lam.lam c.in_ok-term.term (example-after c))
