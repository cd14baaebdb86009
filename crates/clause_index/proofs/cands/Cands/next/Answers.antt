use Rattle.std.proofs.Common.{◌∙◌, sym, ap, ap₂}
use Rattle.clause_index.specs.inside.Runs.{run_in, merged, comes_first}
use Rattle.clause_index.proofs.NumberLemmas.{next-own, next-loose}
use Rattle.clause_index.proofs.cands.Cands.next.Goals as goal

pub returns-then-own_is_next-clause-first : goal.returns-then-own_is_next-clause-first
returns-then-own_is_next-clause-first c =
    let ls = c.args.index.now.lists in
    let e = sym (c.own_is_next.ensures ∙ ap₂ comes_first c.first-own.ensures c.first-loose.ensures) ∙ c.if-own_is_next.true in
    c.first-own.ensures ∙ (next-own (run_in ls c.args.self.now.own) (run_in ls c.args.self.now.loose) e).0

pub returns-then-own_is_next-clause-rest : goal.returns-then-own_is_next-clause-rest
returns-then-own_is_next-clause-rest c =
    let ls = c.args.index.now.lists in
    let e = sym (c.own_is_next.ensures ∙ ap₂ comes_first c.first-own.ensures c.first-loose.ensures) ∙ c.if-own_is_next.true in
    ap (λ xs. merged xs (run_in ls c.args.self.now.loose)) c.advance.ensures ∙ (next-own (run_in ls c.args.self.now.own) (run_in ls c.args.self.now.loose) e).1

pub returns-clause-first : goal.returns-clause-first
returns-clause-first c =
    let ls = c.args.index.now.lists in
    let e = sym (c.own_is_next.ensures ∙ ap₂ comes_first c.first-own.ensures c.first-loose.ensures) ∙ c.if-own_is_next.false in
    c.first-loose.ensures ∙ (next-loose (run_in ls c.args.self.now.own) (run_in ls c.args.self.now.loose) e).0

pub returns-clause-rest : goal.returns-clause-rest
returns-clause-rest c =
    let ls = c.args.index.now.lists in
    let e = sym (c.own_is_next.ensures ∙ ap₂ comes_first c.first-own.ensures c.first-loose.ensures) ∙ c.if-own_is_next.false in
    ap (merged (run_in ls c.args.self.now.own)) c.advance-2.ensures ∙ (next-loose (run_in ls c.args.self.now.own) (run_in ls c.args.self.now.loose) e).1
