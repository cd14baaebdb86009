-- An assigned variable stands for its value.
use Rattle.std.proofs.Common.{◌≡◌, ℕ, List, [], ◌∷◌, cond, nat_eq, Bool, true, false, Some, None, refl, sym, ap, ◌∙◌, eqb-true}
use Rattle.level_terms.specs.declared.node.Node.{Node}
use Rattle.level_terms.specs.Graph.{Assigned, value_in}
use Rattle.level_terms.specs.Reading.{value_term, values_of}
use Rattle.level_terms.specs.Reached.{plant, node_tree, trees_of, NoCycle}
use Rattle.level_terms.proofs.ReadingLemmas.{built-value, valued_built, inst-inst_all}
use Rattle.ref_terms.specs.terms.Term.{Term, Var, At}
use Rattle.ref_terms.specs.terms.Instance.{inst_all, inst}
use Rattle.ref_terms.specs.terms.Built.{IsBuilt}
use Rattle.ref_terms.specs.lemmas.FillLemmas.{built-fill}
use Rattle.level_terms.proofs.CoverLemmas.{covers-assigned, unreached-stays}

-- a variable without a value stands for itself
pub values-free : (nodes : List Node) (depths : List ℕ) (bs : List Assigned) (v : ℕ) → value_in bs v ≡ None → values_of nodes depths bs v ≡ At (Var v)
unfolding values_of
values-free nodes depths [] v e = refl
values-free nodes depths (a ∷ older) v e = go (nat_eq a.variable v) refl e (λ q. values-free nodes depths older v q)
  where
    u : Term
    u = inst_all (values_of nodes depths older) (value_term nodes depths a)

    go : (b : Bool) → nat_eq a.variable v ≡ b → cond b (Some a.value) (value_in older v) ≡ None → (value_in older v ≡ None → values_of nodes depths older v ≡ At (Var v)) → inst a.variable u (values_of nodes depths older v) ≡ At (Var v)
    go true q e h = absurd (let z : Some a.value ≡ None = e in cc)
    go false q e h = ap (inst a.variable u) (h e) ∙ ap (λ b. cond b u (At (Var v))) q

pub value-stands : (nodes : List Node) (depths : List ℕ) (bs : List Assigned) → NoCycle nodes bs → (v t : ℕ) → value_in bs v ≡ Some t → values_of nodes depths bs v ≡ inst_all (values_of nodes depths bs) (value_term nodes depths (record { variable = v; value = t }))
unfolding values_of
value-stands nodes depths [] w v t e = absurd (let z : None ≡ Some t = e in cc)
value-stands nodes depths (a ∷ older) w v t e = go (nat_eq a.variable v) refl e (λ q. value-stands nodes depths older w.2 v t q)
  where
    before : ℕ → Term
    before = values_of nodes depths older

    u : Term
    u = inst_all before (value_term nodes depths a)

    built : IsBuilt u
    built = built-fill _ (valued_built before (built-value nodes depths older)) (value_term nodes depths a)

    later : (x : Term) → inst a.variable u (inst_all before x) ≡ inst_all (λ k. inst a.variable u (before k)) x
    later x = inst-inst_all before a.variable u built x

    go : (b : Bool) → nat_eq a.variable v ≡ b → cond b (Some a.value) (value_in older v) ≡ Some t
        → (value_in older v ≡ Some t → before v ≡ inst_all before (value_term nodes depths (record { variable = v; value = t })))
        → inst a.variable u (before v) ≡ inst_all (λ k. inst a.variable u (before k)) (value_term nodes depths (record { variable = v; value = t }))
    go true q e h =
        let variables : a.variable ≡ v = eqb-true _ _ q in
        let values : a.value ≡ t = (let z : Some a.value ≡ Some t = e in cc) in
        let same : a ≡ record { variable = v; value = t } = λ i. record { variable = variables i; value = values i } in
        ap (λ k. inst a.variable u (before k)) (sym variables)
        ∙ ap (inst a.variable u) (values-free nodes depths older a.variable w.0)
        ∙ ap (λ b. cond b u (At (Var a.variable))) (ap (nat_eq a.variable) variables ∙ q)
        ∙ sym (unreached-stays (plant (trees_of nodes older) (node_tree nodes a.value)) u a.variable u (covers-assigned nodes depths older a) built built w.1)
        ∙ later (value_term nodes depths a)
        ∙ ap (λ z. inst_all (λ k. inst a.variable u (before k)) (value_term nodes depths z)) same
    go false q e h = ap (inst a.variable u) (h e) ∙ later (value_term nodes depths (record { variable = v; value = t }))
