use Rattle.std.proofs.Common.{◌≡◌, ◌∙◌, ℕ, List, [], map, ap, sym, subst}
use Rattle.lp_resolve.specs.declared.query.QueryVar.{QueryVar}
use Rattle.lp_resolve.specs.declared.variable.Variable.{Variable}
use Rattle.lp_resolve.specs.Variables.{Met, nothing_met}
use Rattle.lp_resolve.specs.Reads.{IsRead}
use Rattle.lp_resolve.specs.Queries.{query_var}
use Rattle.lp_resolve.proofs.QueryFacts.{query-read, query-formed, query-named}
use Rattle.lp_resolve.specs.Symbols.{reserved_names}
use Rattle.lp_resolve.specs.Texts.{texts_of}
use Rattle.lp_resolve.proofs.ReadingForms.{begins-twice}
use Rattle.lp_resolve.proofs.ReadingNamed.{AreIn, interned-in}
use Rattle.lp_resolve.proofs.read.resolve_query.Goals as goal

pub returns-clause-query : goal.returns-clause-query
returns-clause-query c =
    let table = c.read_term.new.symbols in
    let read : IsRead table [] nothing_met c.args.goal.now.term c.read_term.new.variables c.in_ok-tree.tree =
    subst (λ (m : Met). IsRead table [] m c.args.goal.now.term c.read_term.new.variables c.in_ok-tree.tree) c.new-variables.ensures c.in_ok-tree.ensures.read in
    let are : c.in_ok-vars.vars ≡ map (query_var table) c.read_term.new.variables.names = c.in_ok-vars.ensures ∙ ap (λ (ns : List Variable). map (query_var table) ns) c.names.ensures in
    query-read table c.args.goal.now.term c.read_term.new.variables c.in_ok-tree.tree c.in_ok-vars.vars read are

pub returns-clause-formed : goal.returns-clause-formed
returns-clause-formed c =
    let table = c.read_term.new.symbols in
    let read : IsRead table [] nothing_met c.args.goal.now.term c.read_term.new.variables c.in_ok-tree.tree =
    subst (λ (m : Met). IsRead table [] m c.args.goal.now.term c.read_term.new.variables c.in_ok-tree.tree) c.new-variables.ensures c.in_ok-tree.ensures.read in
    let are : c.in_ok-vars.vars ≡ map (query_var table) c.read_term.new.variables.names = c.in_ok-vars.ensures ∙ ap (λ (ns : List Variable). map (query_var table) ns) c.names.ensures in
    query-formed table c.args.goal.now.term c.read_term.new.variables c.in_ok-tree.tree c.in_ok-vars.vars read are

pub returns-clause-named : goal.returns-clause-named
returns-clause-named c =
    let table = c.read_term.new.symbols in
    let t = c.args.goal.now.term in
    let read : IsRead table [] nothing_met t c.read_term.new.variables c.in_ok-tree.tree =
    subst (λ (m : Met). IsRead table [] m t c.read_term.new.variables c.in_ok-tree.tree) c.new-variables.ensures c.in_ok-tree.ensures.read in
    let are : c.in_ok-vars.vars ≡ map (query_var table) c.read_term.new.variables.names = c.in_ok-vars.ensures ∙ ap (λ (ns : List Variable). map (query_var table) ns) c.names.ensures in
    let reserved = begins-twice reserved_names c.args.symbols.now table c.begins_reserved.ensures c.in_ok-tree.ensures.begins in
    let texts = subst (λ (ts : List (List ℕ)). AreIn ts (texts_of t)) (sym c.in_ok-tree.ensures.table) (interned-in c.args.symbols.now (texts_of t)) in
    query-named table t c.read_term.new.variables c.in_ok-tree.tree c.in_ok-vars.vars read are reserved texts
