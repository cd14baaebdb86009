use Rattle.std.proofs.Common.{◌≡◌, All, Bool, ℕ, List, Option, IfSome, true, false, subst}
use Rattle.type_graph.specs.Types.{Ty}
use Rattle.type_terms.specs.Read.{declared_of}
use Rattle.type_terms.specs.Demands.{Meets, Demands}
use Rattle.type_graph.specs.declared.node.Node.{Node}
use Rattle.ref_terms.specs.declared.tree.Tree.{Tree}
use Rattle.lp_resolve.specs.declared.program.HeadTree.{HeadTree}
use Rattle.lp_resolve.specs.declared.program.PairTree.{PairTree}
use Rattle.lp_resolve.specs.declared.program.RuleTree.{RuleTree}
use Rattle.type_terms.specs.declared.scope.Scope.{Scope}
use Rattle.type_terms.specs.Read.{AreKnown}
use Rattle.type_terms.proofs.CallerLemmas.{known-depends, demands-both, demands-part, same-demand, if-ok}
use Rattle.type_check.specs.Typings.{IsTreeTyped, IsHeadTyped, IsPairTyped, IsTestTyped, IsRuleTyped}
use Rattle.type_check.specs.inside.Scopes.{At}
use Rattle.type_check.proofs.rules.demand_rule.Goals as goal

abbrev Heads : Scope → List HeadTree → List Ty → List Ty → Type 0
Heads s hs cs xs = All (IsHeadTyped (declared_of s.declared.now) cs xs) hs

abbrev Pairs : Scope → List PairTree → List Ty → List Ty → Type 0
Pairs s ps cs xs = All (IsPairTyped xs) ps

abbrev Tests : Scope → List Tree → List Ty → List Ty → Type 0
Tests s ts cs xs = All (IsTestTyped (declared_of s.declared.now) cs xs) ts

abbrev Body : Scope → Option Tree → List Ty → List Ty → Type 0
Body s body cs xs = IfSome body (IsTreeTyped (declared_of s.declared.now) cs xs)

abbrev Whole : Scope → RuleTree → (ℕ → Ty) → Type 0
Whole s r = At s (λ cs xs. IsRuleTyped (declared_of s.declared.now) cs xs r)

-- one more of them
both : (ns ms ns' : List Node) (s : Scope) (C D : List Ty → List Ty → Type 0) (b : Bool) → AreKnown ns s → Meets ns ms (At s C) → Demands ms ns' (At s D) b → Demands ns ns' (At s (λ cs xs. C cs xs × D cs xs)) b
both ns ms ns' s C D b k m d = demands-both ns ms ns' (At s C) (At s D) (At s (λ cs xs. C cs xs × D cs xs)) b (known-depends ns s D k) (λ v e. e) (λ v e f. (e, f)) m d

-- what the first of them come to
abbrev Two : Scope → RuleTree → List Ty → List Ty → Type 0
Two s r cs xs = Heads s r.kept cs xs × Heads s r.removed cs xs

abbrev Three : Scope → RuleTree → List Ty → List Ty → Type 0
Three s r cs xs = Two s r cs xs × Pairs s r.pairs cs xs

abbrev Four : Scope → RuleTree → List Ty → List Ty → Type 0
Four s r cs xs = Three s r cs xs × Tests s r.tests cs xs

abbrev Five : Scope → RuleTree → List Ty → List Ty → Type 0
Five s r cs xs = Four s r cs xs × Body s r.body cs xs

-- lists that are the same demand the same
at-list : {A : Type 0} (ns ns' : List Node) (s : Scope) (P : List A → List Ty → List Ty → Type 0) (xs ys : List A) (b d : Bool) → xs ≡ ys → b ≡ d → Demands ns ns' (At s (P xs)) b → Demands ns ns' (At s (P ys)) d
at-list ns ns' s P xs ys b d e f h = subst (λ zs. Demands ns ns' (At s (P zs)) d) e (subst (Demands ns ns' (At s (P xs))) f h)

pub returns-then-not-branch : goal.returns-then-not-branch
returns-then-not-branch c =
    let s = c.args.scope.now in
    let r = c.args.rule.now in
    let g = c.args.graph.now in
    let g1 = c.demand_heads.new.graph in
    demands-part g g1 (At s (Heads s r.kept)) (Whole s r) (λ v e. e.kept)
    (at-list g g1 s (Heads s) c.as_slice.result.now r.kept _ false c.as_slice.ensures c.if-not-branch.true c.in_ok-demand_heads.ensures)

pub returns-then-not-branch-2 : goal.returns-then-not-branch-2
returns-then-not-branch-2 c =
    let s = c.args.scope.now in
    let r = c.args.rule.now in
    let g = c.args.graph.now in
    let g1 = c.demand_heads.new.graph in
    let g2 = c.demand_heads-2.new.graph in
    let one : Meets g g1 (At s (Heads s r.kept)) = at-list g g1 s (Heads s) c.as_slice.result.now r.kept _ true c.as_slice.ensures c.if-not-branch.false c.in_ok-demand_heads.ensures in
    demands-part g g2 (At s (Two s r)) (Whole s r) (λ v e. (e.kept, e.removed))
    (both g g1 g2 s (Heads s r.kept) (Heads s r.removed) false c.requires one
    (at-list g1 g2 s (Heads s) c.as_slice-2.result.now r.removed _ false c.as_slice-2.ensures c.if-not-branch-2.true c.in_ok-demand_heads-2.ensures))

pub returns-then-not-branch-3 : goal.returns-then-not-branch-3
returns-then-not-branch-3 c =
    let s = c.args.scope.now in
    let r = c.args.rule.now in
    let g = c.args.graph.now in
    let g1 = c.demand_heads.new.graph in
    let g2 = c.demand_heads-2.new.graph in
    let g3 = c.demand_pairs.new.graph in
    let one : Meets g g1 (At s (Heads s r.kept)) = at-list g g1 s (Heads s) c.as_slice.result.now r.kept _ true c.as_slice.ensures c.if-not-branch.false c.in_ok-demand_heads.ensures in
    let two : Meets g g2 (At s (Two s r)) = both g g1 g2 s (Heads s r.kept) (Heads s r.removed) true c.requires one
    (at-list g1 g2 s (Heads s) c.as_slice-2.result.now r.removed _ true c.as_slice-2.ensures c.if-not-branch-2.false c.in_ok-demand_heads-2.ensures) in
    demands-part g g3 (At s (Three s r)) (Whole s r) (λ v e. ((e.kept, e.removed), e.pairs))
    (both g g2 g3 s (Two s r) (Pairs s r.pairs) false c.requires two
    (at-list g2 g3 s (Pairs s) c.as_slice-3.result.now r.pairs _ false c.as_slice-3.ensures c.if-not-branch-3.true c.in_ok-demand_pairs.ensures))

pub returns-then-not-branch-4 : goal.returns-then-not-branch-4
returns-then-not-branch-4 c =
    let s = c.args.scope.now in
    let r = c.args.rule.now in
    let g = c.args.graph.now in
    let g1 = c.demand_heads.new.graph in
    let g2 = c.demand_heads-2.new.graph in
    let g3 = c.demand_pairs.new.graph in
    let g4 = c.demand_tests.new.graph in
    let one : Meets g g1 (At s (Heads s r.kept)) = at-list g g1 s (Heads s) c.as_slice.result.now r.kept _ true c.as_slice.ensures c.if-not-branch.false c.in_ok-demand_heads.ensures in
    let two : Meets g g2 (At s (Two s r)) = both g g1 g2 s (Heads s r.kept) (Heads s r.removed) true c.requires one
    (at-list g1 g2 s (Heads s) c.as_slice-2.result.now r.removed _ true c.as_slice-2.ensures c.if-not-branch-2.false c.in_ok-demand_heads-2.ensures) in
    let three : Meets g g3 (At s (Three s r)) = both g g2 g3 s (Two s r) (Pairs s r.pairs) true c.requires two
    (at-list g2 g3 s (Pairs s) c.as_slice-3.result.now r.pairs _ true c.as_slice-3.ensures c.if-not-branch-3.false c.in_ok-demand_pairs.ensures) in
    demands-part g g4 (At s (Four s r)) (Whole s r) (λ v e. (((e.kept, e.removed), e.pairs), e.tests))
    (both g g3 g4 s (Three s r) (Tests s r.tests) false c.requires three
    (at-list g3 g4 s (Tests s) c.as_slice-4.result.now r.tests _ false c.as_slice-4.ensures c.if-not-branch-4.true c.in_ok-demand_tests.ensures))

pub returns : goal.returns
returns c =
    let s = c.args.scope.now in
    let r = c.args.rule.now in
    let g = c.args.graph.now in
    let g1 = c.demand_heads.new.graph in
    let g2 = c.demand_heads-2.new.graph in
    let g3 = c.demand_pairs.new.graph in
    let g4 = c.demand_tests.new.graph in
    let g5 = c.demand_body.new.graph in
    let one : Meets g g1 (At s (Heads s r.kept)) = at-list g g1 s (Heads s) c.as_slice.result.now r.kept _ true c.as_slice.ensures c.if-not-branch.false c.in_ok-demand_heads.ensures in
    let two : Meets g g2 (At s (Two s r)) = both g g1 g2 s (Heads s r.kept) (Heads s r.removed) true c.requires one
    (at-list g1 g2 s (Heads s) c.as_slice-2.result.now r.removed _ true c.as_slice-2.ensures c.if-not-branch-2.false c.in_ok-demand_heads-2.ensures) in
    let three : Meets g g3 (At s (Three s r)) = both g g2 g3 s (Two s r) (Pairs s r.pairs) true c.requires two
    (at-list g2 g3 s (Pairs s) c.as_slice-3.result.now r.pairs _ true c.as_slice-3.ensures c.if-not-branch-3.false c.in_ok-demand_pairs.ensures) in
    let four : Meets g g4 (At s (Four s r)) = both g g3 g4 s (Three s r) (Tests s r.tests) true c.requires three
    (at-list g3 g4 s (Tests s) c.as_slice-4.result.now r.tests _ true c.as_slice-4.ensures c.if-not-branch-4.false c.in_ok-demand_tests.ensures) in
    if-ok c.demand_body.result (Demands g4 g5 (At s (Body s r.body))) (Demands g g5 (Whole s r))
    (λ b d. same-demand g g5 (At s (Five s r)) (Whole s r) b
    (λ v e. record { kept = e.0.0.0.0; removed = e.0.0.0.1; pairs = e.0.0.1; tests = e.0.1; body = e.1 })
    (λ v e. ((((e.kept, e.removed), e.pairs), e.tests), e.body))
    (both g g4 g5 s (Four s r) (Body s r.body) b c.requires four d))
    c.demand_body.ensures
