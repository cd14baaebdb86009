use Rattle.std.proofs.Common.{◌≡◌, ◌∙◌, ℕ, ◌++◌, length, reverse, codes, sym, subst, ap}
use Rattle.std.specs.Fmt.{decimal}
use Rattle.type_graph.specs.Graph.{LeadsBelow, node_at}
use Rattle.lp_resolve.proofs.BeginsLemmas.{begins-refl}
use Rattle.type_texts.specs.declared.tasks.Task.TheVariants.{Node as NodeTask}
use Rattle.type_texts.specs.OpenTypes.{OpenType, open_variable, open_word, open_applied}
use Rattle.type_texts.specs.TypeText.{word_text, type_text, variables_in, noted_all, place_in}
use Rattle.type_texts.specs.inside.Readings.{ReadsAs}
use Rattle.type_texts.specs.inside.Tasks.{applied_tasks}
use Rattle.type_texts.proofs.Places.{place-stays, noted-begins}
use Rattle.type_texts.proofs.Readings.{open_at, open-reading}
use Rattle.type_texts.proofs.Steps.{on-ok, on-ok-both, written, replaced, replaced-fewer, replaced-within, stacked}
use Rattle.type_texts.proofs.writing.write_node.Goals as goal

pub returns-in-Free-clause-writes : goal.returns-in-Free-clause-writes
returns-in-Free-clause-writes c =
    let g = node_at c.args.graph.now in
    let k = c.args.node in
    let end = c.end_of-end.result in
    let vs = c.args.variables.now.keys in
    let new = c.write_variable.new.variables.keys in
    on-ok-both c.write_variable.result c.write_variable.ensures.variables c.write_variable.ensures.text (λ added put. λ u reading.
    let e : u k ≡ open_variable end = sym (c.end_of-end.ensures.same u reading) ∙ subst (ReadsAs u end (u end)) (sym c.node.ensures ∙ c.in-Free.is) (reading end) in
    written c.args.symbols.now u vs c.args.text.now.items (NodeTask k) (reverse c.args.tasks.now.items) new c.write_variable.new.text.items (codes "A" ++ decimal (place_in new end))
    (noted-begins vs new end added) (added ∙ ap (λ (t : OpenType). noted_all vs (variables_in t)) (sym e))
    (λ all b. ap (type_text c.args.symbols.now all) e ∙ ap (λ (n : ℕ). codes "A" ++ decimal n) (place-stays vs new all end added b)) put)

pub returns-in-Leaf-clause-writes : goal.returns-in-Leaf-clause-writes
returns-in-Leaf-clause-writes c =
    let k = c.args.node in
    let end = c.end_of-end.result in
    let vs = c.args.variables.now.keys in
    let w = c.in-Leaf.word in
    on-ok c.write_word.result c.write_word.ensures (λ put. λ u reading.
    let e : u k ≡ open_word w = sym (c.end_of-end.ensures.same u reading) ∙ subst (ReadsAs u end (u end)) (sym c.node.ensures ∙ c.in-Leaf.is) (reading end) in
    written c.args.symbols.now u vs c.args.text.now.items (NodeTask k) (reverse c.args.tasks.now.items) vs c.write_word.new.text.items (word_text c.args.symbols.now w)
    (begins-refl vs) (ap (λ (t : OpenType). noted_all vs (variables_in t)) (sym e))
    (λ all b. ap (type_text c.args.symbols.now all) e) put)

pub returns-in-Apply-clause-within : goal.returns-in-Apply-clause-within
returns-in-Apply-clause-within c =
    let g = c.args.graph.now in
    let end = c.end_of-end.result in
    let l = c.in-Apply.left in
    let r = c.in-Apply.right in
    let below = subst (LeadsBelow (length g)) (sym c.node.ensures ∙ c.in-Apply.is) (c.len-count.ensures.sound end) in
    let u = open_at g in
    on-ok c.push_applied.result c.push_applied.ensures (λ put.
    replaced-within (length g) u l r (reverse c.args.tasks.now.items) (reverse c.push_applied.new.tasks.items) below.0 below.1
    (stacked c.args.tasks.now.items c.push_applied.new.tasks.items (applied_tasks u l r) (put u (open-reading g c.len-count.ensures.sound c.len-count.ensures.acyclic)))
    c.requires.within)

pub returns-in-Apply-clause-writes : goal.returns-in-Apply-clause-writes
returns-in-Apply-clause-writes c =
    let k = c.args.node in
    let end = c.end_of-end.result in
    let l = c.in-Apply.left in
    let r = c.in-Apply.right in
    on-ok c.push_applied.result c.push_applied.ensures (λ put. λ u reading.
    let e : u k ≡ open_applied (u l) (u r) = sym (c.end_of-end.ensures.same u reading) ∙ subst (ReadsAs u end (u end)) (sym c.node.ensures ∙ c.in-Apply.is) (reading end) in
    replaced c.args.symbols.now u c.args.variables.now.keys c.args.text.now.items k l r (reverse c.args.tasks.now.items) (reverse c.push_applied.new.tasks.items) e
    (stacked c.args.tasks.now.items c.push_applied.new.tasks.items (applied_tasks u l r) (put u reading)))

pub returns-in-Apply-clause-fewer : goal.returns-in-Apply-clause-fewer
returns-in-Apply-clause-fewer c =
    let k = c.args.node in
    let end = c.end_of-end.result in
    let l = c.in-Apply.left in
    let r = c.in-Apply.right in
    on-ok c.push_applied.result c.push_applied.ensures (λ put. λ u reading.
    let e : u k ≡ open_applied (u l) (u r) = sym (c.end_of-end.ensures.same u reading) ∙ subst (ReadsAs u end (u end)) (sym c.node.ensures ∙ c.in-Apply.is) (reading end) in
    replaced-fewer u k l r (reverse c.args.tasks.now.items) (reverse c.push_applied.new.tasks.items) e
    (stacked c.args.tasks.now.items c.push_applied.new.tasks.items (applied_tasks u l r) (put u reading)))
