-- What a checked program is: what the static rules leave of its rules.
use Rattle.std.proofs.Common.{◌≡◌, ◌∙◌, ℕ, zero, suc, ◌<◌, false, List, [], ◌∷◌, ◌++◌, map, length, All, None, refl, ap, ap₂, sym, arith}
use Rattle.std.proofs.lemmas.List.{length-map}
use Rattle.std.specs.List.{flat_map, zip}
use Rattle.lp_parser.specs.declared.ast.Place.{Place}
use Rattle.lp_resolve.specs.declared.program.Program.{Program}
use Rattle.lp_resolve.specs.declared.program.HeadTree.{HeadTree}
use Rattle.lp_resolve.specs.declared.program.RuleTree.{RuleTree}
use Rattle.lp_resolve.specs.declared.program.Pred.{Pred}
use Rattle.ref_terms.specs.declared.tree.Tree.{Tree}
use Rattle.lp_resolve.specs.StaticRules.{PlacedHead, first_breach, breaches_at, redeclared, line_breaches, head_breaches, rule_breaches, placed_heads, clause_head, rule_heads, lacks_constant, heads_of, goals_of}
use Rattle.lp_resolve.specs.declared.static_rule.StaticRule.TheVariants.{S1}
use Rattle.lp_resolve.specs.Occurrences.{occurrences}
use Rattle.lp_resolve.specs.Laws.{NoneIsBroken}
use Rattle.lp_resolve.specs.WellFormed.{IsWellFormed, IsRuleFormed, IsHeadFormed}
use Rattle.clause_compile.specs.inside.RuleCodes.{IsHeadFit, IsRuleFit}
use Rattle.clause_compile.proofs.FitLemmas.{append-none, head-sound, option-within}
use Rattle.clause_compile.proofs.OrderLemmas.{rule-ahead}

-- each tree has a constant
abbrev AllConstant : List Tree → Type 0
AllConstant [] = Unit {0}
AllConstant (t ∷ ts) = (lacks_constant t ≡ false) × AllConstant ts

-- each head fits
abbrev HeadsFit : ℕ → List HeadTree → Type 0
HeadsFit vars [] = Unit {0}
HeadsFit vars (h ∷ hs) = IsHeadFit vars h × HeadsFit vars hs

abbrev placed : Tree × (Place × List Place) → PlacedHead
placed h = record { tree = h.0; place = h.1.0; vars = h.1.1 }

placed-sound : (preds : List (ℕ × Pred)) (ts : List Tree) (ps : List Place) (vs : List (List Place)) → length ps ≡ length ts → length vs ≡ length ts → flat_map (head_breaches preds) (map placed (zip ts (zip ps vs))) ≡ [] → AllConstant ts
placed-sound preds [] ps vs a b e = tt
placed-sound preds (t ∷ ts) [] vs a b e = absurd (let z : 0 ≡ suc (length ts) = a in omega (arith, z))
placed-sound preds (t ∷ ts) (p ∷ ps) [] a b e = absurd (let z : 0 ≡ suc (length ts) = b in omega (arith, z))
placed-sound preds (t ∷ ts) (p ∷ ps) (v ∷ vs) a b e =
    let w = append-none (head_breaches preds (placed (t, (p, v)))) (flat_map (head_breaches preds) (map placed (zip ts (zip ps vs)))) e in
    let x : suc (length ps) ≡ suc (length ts) = a in
    let y : suc (length vs) ≡ suc (length ts) = b in
    (head-sound preds (placed (t, (p, v))) w.0, placed-sound preds ts ps vs (omega (arith, x)) (omega (arith, y)) w.1)

flat-back : {A B : Type 0} (f : A → List B) (xs ys : List A) → flat_map f (xs ++ ys) ≡ [] → flat_map f ys ≡ []
flat-back f [] ys e = e
flat-back f (x ∷ xs) ys e = flat-back f xs ys (append-none (f x) (flat_map f (xs ++ ys)) e).1

flat-front : {A B : Type 0} (f : A → List B) (xs ys : List A) → flat_map f (xs ++ ys) ≡ [] → flat_map f xs ≡ []
flat-front f [] ys e = refl
flat-front f (x ∷ xs) ys e =
    let w = append-none (f x) (flat_map f (xs ++ ys)) e in
    ap₂ (λ us vs. us ++ vs) w.0 (flat-front f xs ys w.1)

heads-fit : (vars : ℕ) (hs : List HeadTree) → AllConstant (map (λ h. h.goal) hs) → All (IsHeadFormed vars) hs → HeadsFit vars hs
heads-fit vars [] a w = tt
heads-fit vars (h ∷ hs) a w = (
  (
      let formed = w zero h (let z : 0 < suc (length hs) = omega arith in z) in
      record { context = formed.context; headed = a.0; goal = formed.goal.within }
      ),
  heads-fit vars hs a.1 (λ j v m. w (suc j) v (let z : j < length hs = m in omega (arith, z))),
)

fit-front : (vars : ℕ) (xs ys : List HeadTree) → HeadsFit vars (xs ++ ys) → HeadsFit vars xs
fit-front vars [] ys w = tt
fit-front vars (x ∷ xs) ys w = (w.0, fit-front vars xs ys w.1)

fit-back : (vars : ℕ) (xs ys : List HeadTree) → HeadsFit vars (xs ++ ys) → HeadsFit vars ys
fit-back vars [] ys w = w
fit-back vars (x ∷ xs) ys w = fit-back vars xs ys w.1

fit-all : (vars : ℕ) (hs : List HeadTree) → HeadsFit vars hs → All (IsHeadFit vars) hs
fit-all vars [] w k u l = absurd (let z : k < 0 = l in omega (arith, z))
fit-all vars (h ∷ hs) w zero u l = w.0
fit-all vars (h ∷ hs) w (suc k) u l = fit-all vars hs w.1 k u (let z : suc k < suc (length hs) = l in omega (arith, z))

rule-fit : (preds : List (ℕ × Pred)) (r : RuleTree) → IsRuleFormed r → flat_map (head_breaches preds) (rule_heads r) ≡ [] → rule_breaches r ≡ [] → IsRuleFit r
rule-fit preds r w e f =
    let long : length (goals_of r) ≡ length (heads_of r) = length-map (heads_of r) (λ h. h.goal) in
    let places : length r.places.heads ≡ length (goals_of r) = w.head_places ∙ sym long in
    let vars : length r.places.vars ≡ length (goals_of r) =
    sym (length-map r.places.vars (λ ps. length ps)) ∙ ap length w.var_places ∙ length-map (goals_of r) (λ t. length (occurrences t)) in
    let heads = heads-fit r.vars (heads_of r) (placed-sound preds (goals_of r) r.places.heads r.places.vars places vars e) w.heads in
    record {
      kept = fit-all r.vars r.kept (fit-front r.vars r.kept r.removed heads);
      removed = fit-all r.vars r.removed (fit-back r.vars r.kept r.removed heads);
      earlier = rule-ahead r w f;
      tests = λ k u l. (w.tests k u l).within;
      body = option-within r.vars r.body w.body;
    }

rules-fit : (preds : List (ℕ × Pred)) (rs : List RuleTree) → All IsRuleFormed rs → flat_map (head_breaches preds) (flat_map rule_heads rs) ≡ [] → flat_map rule_breaches rs ≡ [] → All IsRuleFit rs
rules-fit preds [] w e f k u l = absurd (let z : k < 0 = l in omega (arith, z))
rules-fit preds (r ∷ rs) w e f zero u l =
    rule-fit preds r (w zero u l) (flat-front (head_breaches preds) (rule_heads r) (flat_map rule_heads rs) e) (append-none (rule_breaches r) (flat_map rule_breaches rs) f).0
rules-fit preds (r ∷ rs) w e f (suc k) u l =
    rules-fit preds rs (λ j v m. w (suc j) v (let z : j < length rs = m in omega (arith, z))) (flat-back (head_breaches preds) (rule_heads r) (flat_map rule_heads rs) e)
    (append-none (rule_breaches r) (flat_map rule_breaches rs) f).1 k u (let z : suc k < suc (length rs) = l in omega (arith, z))

pub fit-rules : (p : Program) → NoneIsBroken → IsWellFormed p → first_breach p ≡ None → All IsRuleFit p.rules
fit-rules p none w e =
    let q = (none p).0 e in
    let s1 = breaches_at S1 (redeclared [] p.decls) in
    let lines = flat_map line_breaches p.decls in
    let heads = flat_map (head_breaches p.preds) (placed_heads p) in
    let rules = flat_map rule_breaches p.rules in
    let both = append-none (s1 ++ lines ++ heads) rules q in
    rules-fit p.preds p.rules w.rules (flat-back (head_breaches p.preds) (map clause_head p.clauses) (flat_map rule_heads p.rules) (append-none (s1 ++ lines) heads both.0).1) both.1
