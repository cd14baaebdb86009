use Rattle.std.proofs.Common.{List, ℕ, [], Some, None, subst}
use Rattle.type_graph.specs.declared.node.Node.{Node}
use Rattle.type_terms.specs.Read.{declared_of}
use Rattle.type_terms.specs.FreeNodes.{Frees}
use Rattle.type_check.specs.Typings.{items_of}
use Rattle.type_check.specs.declared.places.Entry.{Entry}
use Rattle.type_check.specs.inside.Folded.{Types}
use Rattle.type_check.proofs.Inference.{all-typed, some-untyped}
use Rattle.type_check.proofs.inferring.infer_types.Goals as goal

pub returns-in-Some-clause-cause : goal.returns-in-Some-clause-cause
returns-in-Some-clause-cause c =
    let d = declared_of c.args.declared.now in
    let nodes = c.in_ok-constants.constants.items in
    let entries = c.in_ok-entries.entries.items in
    let g1 = c.free_nodes.new.graph in
    let frees : Frees [] c.args.count nodes g1 = subst (λ (ns : List Node). Frees ns c.args.count nodes g1) c.new-graph.ensures c.in_ok-constants.ensures in
    some-untyped d c.args.count (items_of c.args.program.now) entries g1 nodes c.in-Some.place frees c.in_ok-entries.ensures
    (subst (λ (es : List Entry). Types d nodes g1 c.type_entries.new.graph es (Some c.in-Some.place)) c.as_slice-2.ensures.value
    (subst (λ (ks : List ℕ). Types d ks g1 c.type_entries.new.graph c.as_slice-2.result.now (Some c.in-Some.place)) c.as_slice.ensures.value
    (subst (Types d c.as_slice.result.now g1 c.type_entries.new.graph c.as_slice-2.result.now) c.in-Some.is c.in_ok-place.ensures)))

pub returns-in-None-clause-typed : goal.returns-in-None-clause-typed
returns-in-None-clause-typed c =
    let d = declared_of c.args.declared.now in
    let nodes = c.in_ok-constants.constants.items in
    let entries = c.in_ok-entries.entries.items in
    let g1 = c.free_nodes.new.graph in
    let frees : Frees [] c.args.count nodes g1 = subst (λ (ns : List Node). Frees ns c.args.count nodes g1) c.new-graph.ensures c.in_ok-constants.ensures in
    all-typed d c.args.count (items_of c.args.program.now) entries g1 _ frees c.in_ok-entries.ensures
    (subst (λ (es : List Entry). Types d nodes g1 c.type_entries.new.graph es None) c.as_slice-2.ensures.value
    (subst (λ (ks : List ℕ). Types d ks g1 c.type_entries.new.graph c.as_slice-2.result.now None) c.as_slice.ensures.value
    (subst (Types d c.as_slice.result.now g1 c.type_entries.new.graph c.as_slice-2.result.now) c.in-None.is c.in_ok-place.ensures)))
    c.len-general.ensures.general
