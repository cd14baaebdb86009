-- What a checked program is: what the static rules leave of its clauses.
use Rattle.std.proofs.Common.{◌≡◌, ℕ, zero, suc, ◌<◌, Bool, true, false, cond, List, [], ◌∷◌, ◌++◌, map, length, All, Option, Some, None, IfSome, refl, arith}
use Rattle.std.specs.List.{flat_map}
use Rattle.lp_parser.specs.declared.ast.Place.{Place}
use Rattle.lp_resolve.specs.declared.program.Program.{Program}
use Rattle.lp_resolve.specs.declared.program.ClauseTree.{ClauseTree}
use Rattle.lp_resolve.specs.declared.program.Pred.{Pred}
use Rattle.lp_resolve.specs.declared.static_rule.StaticRule.{StaticRule}
use Rattle.lp_resolve.specs.declared.static_rule.StaticRule.TheVariants.{S1, S2, S3, S4, S5}
use Rattle.ref_terms.specs.declared.tree.Tree.{Tree}
use Rattle.lp_resolve.specs.StaticRules.{PlacedHead, first_breach, breaches_at, redeclared, line_breaches, head_breaches, rule_breaches, placed_heads, clause_head, rule_heads, lacks_constant, has_other_arity, unusable_variables, has_reserved_head}
use Rattle.lp_resolve.specs.Laws.{NoneIsBroken}
use Rattle.lp_resolve.specs.Trees.{as_term, IsWithin}
use Rattle.lp_resolve.specs.WellFormed.{IsWellFormed, IsClauseFormed, IsFormedOver}
use Rattle.clause_compile.specs.inside.Fit.{AllHeaded, IsClauseFit}

-- two lists that are empty together
pub append-none : {A : Type 0} (xs ys : List A) → xs ++ ys ≡ [] → (xs ≡ []) × (ys ≡ [])
append-none [] ys e = (refl, e)
append-none (x ∷ xs) ys e = absurd (let k : x ∷ (xs ++ ys) ≡ [] = e in cc)

-- a test that breaks nothing
pub test-false : (s : StaticRule) (b : Bool) (place : Place) → breaches_at s (cond b (place ∷ []) []) ≡ [] → b ≡ false
test-false s true place e = absurd (let k : record { rule = s; place = place } ∷ [] ≡ [] = e in cc)
test-false s false place e = refl

-- a head without a breach has a constant
pub head-sound : (preds : List (ℕ × Pred)) (h : PlacedHead) → head_breaches preds h ≡ [] → lacks_constant h.tree ≡ false
head-sound preds h e =
    let s2 = breaches_at S2 (cond (lacks_constant h.tree) (h.place ∷ []) []) in
    let s3 = breaches_at S3 (cond (has_other_arity preds h.tree) (h.place ∷ []) []) in
    let s4 = breaches_at S4 (unusable_variables h) in
    let s5 = breaches_at S5 (cond (has_reserved_head h.tree) (h.place ∷ []) []) in
    test-false S2 (lacks_constant h.tree) h.place (append-none s2 s3 (append-none (s2 ++ s3) s4 (append-none (s2 ++ s3 ++ s4) s5 e).0).0).0

heads-sound : (preds : List (ℕ × Pred)) (cs : List ClauseTree) (rest : List PlacedHead) → flat_map (head_breaches preds) (map clause_head cs ++ rest) ≡ [] → AllHeaded cs
heads-sound preds [] rest e = tt
heads-sound preds (c ∷ cs) rest e =
    let w = append-none (head_breaches preds (clause_head c)) (flat_map (head_breaches preds) (map clause_head cs ++ rest)) e in
    (head-sound preds (clause_head c) w.0, heads-sound preds cs rest w.1)

-- the clauses' heads have constants
pub all-headed : (p : Program) → NoneIsBroken → first_breach p ≡ None → AllHeaded p.clauses
all-headed p none e =
    let w = (none p).0 e in
    let s1 = breaches_at S1 (redeclared [] p.decls) in
    let lines = flat_map line_breaches p.decls in
    let heads = flat_map (head_breaches p.preds) (placed_heads p) in
    let rules = flat_map rule_breaches p.rules in
    heads-sound p.preds p.clauses (flat_map rule_heads p.rules) (append-none (s1 ++ lines) heads (append-none (s1 ++ lines ++ heads) rules w).0).1

pub option-within : (vars : ℕ) (o : Option Tree) → IfSome o (IsFormedOver vars) → IfSome o (λ t. IsWithin vars 0 (as_term t))
option-within vars None w = tt
option-within vars (Some t) w = w.within

clause-fit : (c : ClauseTree) → lacks_constant c.head ≡ false → IsClauseFormed c → IsClauseFit c
clause-fit c e w = record { headed = e; head = w.head.within; body = option-within c.vars c.body w.body }

clauses-fit : (cs : List ClauseTree) → AllHeaded cs → All IsClauseFormed cs → All IsClauseFit cs
clauses-fit [] h w k u l = absurd (let z : k < 0 = l in omega (arith, z))
clauses-fit (c ∷ cs) h w zero u l = clause-fit c h.0 (w zero u l)
clauses-fit (c ∷ cs) h w (suc k) u l = clauses-fit cs h.1 (λ j v m. w (suc j) v (let z : j < length cs = m in omega (arith, z))) k u (let z : suc k < suc (length cs) = l in omega (arith, z))

pub fit-clauses : (p : Program) → NoneIsBroken → IsWellFormed p → first_breach p ≡ None → All IsClauseFit p.clauses
fit-clauses p none w e = clauses-fit p.clauses (all-headed p none e) w.clauses

pub headed-fit : (cs : List ClauseTree) → All IsClauseFit cs → AllHeaded cs
headed-fit [] w = tt
headed-fit (c ∷ cs) w = ((w zero c (let z : 0 < suc (length cs) = omega arith in z)).headed, headed-fit cs (λ j v m. w (suc j) v (let z : j < length cs = m in omega (arith, z))))
