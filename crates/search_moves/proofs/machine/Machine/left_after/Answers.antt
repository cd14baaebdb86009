use Rattle.std.proofs.Common.{◌≡◌, [], ◌∙◌, suc, sym, ap, subst, arith}
use Rattle.hyp_clause.specs.Hyps.{AllHypsValid}
use Rattle.clause_key.specs.Passing.{IsNextFor}
use Rattle.ref_terms.specs.search.Program.{modes_of}
use Rattle.ref_terms.specs.search.Candidates.{program_candidates}
use Rattle.search_moves.specs.World.{AllUsable}
use Rattle.search_moves.specs.Machine.{branch_of}
use Rattle.search_moves.specs.Calling.{IsLeftAfter, AllHypsClash, clauses_from, left_from}
use Rattle.search_moves.proofs.GrowLemmas.{match-some, match-none}
use Rattle.search_moves.proofs.AssumedLemmas.{after-some, after-none, after-clashes, hyps-left}
use Rattle.search_moves.proofs.CallMoves.{assumed-first}
use Rattle.search_moves.proofs.PassLemmas.{none-assumed}
use Rattle.search_moves.proofs.TryLemmas.{none-open, clauses-left}
use Rattle.search_moves.proofs.machine.Machine.left_after.Goals as goal

pub passes_over_rest-requires-clause-valid : goal.passes_over_rest-requires-clause-valid
passes_over_rest-requires-clause-valid g c =
    let m = c.args.self.now in
    let f = c.args.call.now.goal.now in
    let others = c.args.others.now in
    let is = match-some c.in_ok-found.found (others ≡ []) (λ t. (t ≡ others) × (t ≡ [] → ⊥)) c.in-Some.tail c.in-Some.is c.in_ok-found.ensures in
    subst (AllHypsValid m.world.heap) (sym (c.iter.ensures ∙ is.0 ∙ c.requires.others)) (hyps-left m.world.heap f.depth c.args.call.now.pred.0 (suc c.args.place) f.context c.requires.call.first.context).0

pub passes_over_rest-requires-clause-usable : goal.passes_over_rest-requires-clause-usable
passes_over_rest-requires-clause-usable g c =
    let m = c.args.self.now in
    let f = c.args.call.now.goal.now in
    let others = c.args.others.now in
    let is = match-some c.in_ok-found.found (others ≡ []) (λ t. (t ≡ others) × (t ≡ [] → ⊥)) c.in-Some.tail c.in-Some.is c.in_ok-found.ensures in
    subst (AllUsable m.world.heap f.depth) (sym (c.iter.ensures ∙ is.0 ∙ c.requires.others)) (hyps-left m.world.heap f.depth c.args.call.now.pred.0 (suc c.args.place) f.context c.requires.call.first.context).1

pub returns-then-passes_over_rest-clause-after : goal.returns-then-passes_over_rest-clause-after
returns-then-passes_over_rest-clause-after g c = λ ns p stands inputs.
    let m = c.args.self.now in
    let call = c.args.call.now in
    let f = call.goal.now in
    let others = c.args.others.now in
    let is = match-some c.in_ok-found.found (others ≡ []) (λ t. (t ≡ others) × (t ≡ [] → ⊥)) c.in-Some.tail c.in-Some.is c.in_ok-found.ensures in
    let clash : AllHypsClash m f (modes_of p call.pred.0) others =
    subst (AllHypsClash m f (modes_of p call.pred.0)) (c.iter.ensures ∙ is.0) (c.passes_over_rest.ensures.hyps c.if-passes_over_rest.true (modes_of p call.pred.0) inputs) in
    let none = subst (IsNextFor p call.pred.0 c.args.key 0) (c.passes_over_rest.ensures.clauses c.if-passes_over_rest.true) (c.next_clause-clause.ensures ns p stands) in
    after-clashes p (branch_of m) call.pred m.world.heap f.context others (suc c.args.place) (assumed-first m f c.requires.call.first) c.requires.others
    (none-assumed p m f call.pred.0 (suc c.args.place) others c.requires.call.first c.requires.call.head clash)
    (none-open p m call c.law_disagreeing_clause_clashes.ensures.clashes c.requires.call c.args.key c.requires.key inputs 0 none)

pub returns-in_ok-next-in-Some-clause-after : goal.returns-in_ok-next-in-Some-clause-after
returns-in_ok-next-in-Some-clause-after g c = λ ns p stands inputs.
    let m = c.args.self.now in
    let f = c.args.call.now.goal.now in
    let others = c.args.others.now in
    let tail = c.in-Some.tail in
    let is = match-some c.in_ok-found.found (others ≡ []) (λ t. (t ≡ others) × (t ≡ [] → ⊥)) tail c.in-Some.is c.in_ok-found.ensures in
    after-some p (branch_of m) c.args.call.now.pred m.world.heap f.context others tail (suc c.args.place) c.in_ok-next-in-Some.next (assumed-first m f c.requires.call.first) c.requires.others (λ none. is.1 (is.0 ∙ none)) (omega (arith, c.in_ok-next-in-Some.ensures))

pub returns-in-None-clause-after : goal.returns-in-None-clause-after
returns-in-None-clause-after g c = λ ns p stands inputs.
    let m = c.args.self.now in
    let call = c.args.call.now in
    let f = call.goal.now in
    let others = c.args.others.now in
    let clause = c.next_clause-clause.result in
    let left : IsLeftAfter p (branch_of m) call.pred (program_candidates call.pred.0 0 p.clauses) (clauses_from (left_from clause 0)) =
    clauses-left p m call c.law_disagreeing_clause_clashes.ensures.clashes c.requires.call c.args.key c.requires.key inputs 0 clause (c.next_clause-clause.ensures ns p stands) in
    after-none p (branch_of m) call.pred m.world.heap f.context others (suc c.args.place) c.from_clause.result (assumed-first m f c.requires.call.first) c.requires.others
    (match-none c.in_ok-found.found (others ≡ []) (λ t. (t ≡ others) × (t ≡ [] → ⊥)) c.in-None.is c.in_ok-found.ensures)
    (subst (IsLeftAfter p (branch_of m) call.pred (program_candidates call.pred.0 0 p.clauses)) (sym (c.from_clause.ensures ∙ ap clauses_from c.left_from.ensures)) left)
