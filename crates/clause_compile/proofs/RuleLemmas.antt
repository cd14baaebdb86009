-- The code of rules, and what is made of them.
use Rattle.std.proofs.Common.{◌≡◌, ◌∙◌, ℕ, zero, suc, ◌<◌, List, [], ◌∷◌, ◌++◌, map, length, take, get_or, slice_get, Option, Some, None, option_map, option_to_list, IfSome, refl, ap, ap₂, sym, subst, arith}
use Rattle.ref_terms.specs.terms.Term.{Term}
use Rattle.ref_terms.specs.unification.Spine.{args_of}
use Rattle.ref_terms.specs.search.Front.{term_of}
use Rattle.ref_terms.specs.search.Program.{Rule, RuleHead}
use Rattle.ref_terms.specs.declared.tree.Tree.{Tree}
use Rattle.level_terms.specs.declared.node.Node.{Node}
use Rattle.level_terms.specs.declared.node.TermId.{TermId}
use Rattle.level_terms.specs.Graph.{Graph}
use Rattle.level_terms.specs.Growth.{Grows}
use Rattle.level_terms.specs.Sound.{IsSound}
use Rattle.level_terms.specs.Values.{Value}
use Rattle.level_terms.proofs.MakeLemmas.{value-kept, older-grown}
use Rattle.level_terms.proofs.ReadLemmas.{valid-below}
use Rattle.clause_compile.specs.declared.rules.HeadShape.{HeadShape}
use Rattle.clause_compile.specs.declared.rules.RuleShape.{RuleShape}
use Rattle.clause_compile.specs.declared.rule_instance.HeadInstance.{HeadInstance}
use Rattle.clause_compile.specs.Instances.{names, all_read, AllValidAt}
use Rattle.clause_compile.specs.Rules.{IsContextMade, IsHeadMade, IsHeadShapeOf, IsShapeOf}
use Rattle.clause_compile.specs.inside.Rows.{IsRow}
use Rattle.clause_compile.specs.inside.RuleCodes.{Each, IsHeadCode, AreHeadCodes, IsRuleCode, AreRuleCodes}
use Rattle.clause_compile.proofs.CodeLemmas.{variables-grown, are-fresh, valid-at}
use Rattle.clause_compile.proofs.CodesLemmas.{compiled-kept}

-- place by place
pub each-map : {A B : Type 0} (p q : A → B → Type 0) → ((x : A) (y : B) → p x y → q x y) → (xs : List A) (ys : List B) → Each p xs ys → Each q xs ys
each-map p q f [] [] w = tt
each-map p q f [] (y ∷ ys) w = absurd w
each-map p q f (x ∷ xs) [] w = absurd w
each-map p q f (x ∷ xs) (y ∷ ys) w = (f x y w.0, each-map p q f xs ys w.1)

pub each-more : {A B : Type 0} (r : A → B → Type 0) (xs : List A) (ys : List B) (x : A) (y : B) → Each r xs ys → r x y → Each r (xs ++ x ∷ []) (ys ++ y ∷ [])
each-more r [] [] x y w z = (z, tt)
each-more r [] (b ∷ ys) x y w z = absurd w
each-more r (a ∷ xs) [] x y w z = absurd w
each-more r (a ∷ xs) (b ∷ ys) x y w z = (w.0, each-more r xs ys x y w.1 z)

pub each-long : {A B : Type 0} (r : A → B → Type 0) (xs : List A) (ys : List B) → Each r xs ys → length xs ≡ length ys
each-long r [] [] w = refl
each-long r [] (y ∷ ys) w = absurd w
each-long r (x ∷ xs) [] w = absurd w
each-long r (x ∷ xs) (y ∷ ys) w = ap suc (each-long r xs ys w.1)

pub each-at : {A B : Type 0} (r : A → B → Type 0) (xs : List A) (ys : List B) (i : ℕ) (x : A) (y : B) → Each r xs ys → slice_get xs i ≡ Some x → slice_get ys i ≡ Some y → r x y
each-at r [] [] i x y w a b = absurd (let e : None ≡ Some x = a in cc)
each-at r [] (q ∷ ys) i x y w a b = absurd w
each-at r (p ∷ xs) [] i x y w a b = absurd w
each-at r (p ∷ xs) (q ∷ ys) zero x y w a b =
    let e : p ≡ x = let f : Some p ≡ Some x = a in cc in
    let d : q ≡ y = let f : Some q ≡ Some y = b in cc in
    subst (λ z. r z y) e (subst (r p) d w.0)
each-at r (p ∷ xs) (q ∷ ys) (suc i) x y w a b = each-at r xs ys i x y w.1 a b

-- there is one more
pub record IsNext {A B : Type 0} (r : A → B → Type 0) (ys : List B) (i : ℕ) (x : A) : Type 0 where
  pub item : B
  pub last : take (suc i) ys ≡ take i ys ++ item ∷ []
  pub holds : r x item

pub each-next : {A B : Type 0} (r : A → B → Type 0) (xs : List A) (ys : List B) (i : ℕ) (x : A) → Each r xs ys → i < length xs → x ≡ get_or xs i x → IsNext r ys i x
each-next r [] ys i x w h e = absurd (let z : i < 0 = h in omega (arith, z))
each-next r (a ∷ xs) [] i x w h e = absurd w
each-next r (a ∷ xs) (b ∷ ys) zero x w h e = record { item = b; last = refl; holds = subst (λ z. r z b) (sym e) w.0 }
each-next r (a ∷ xs) (b ∷ ys) (suc i) x w h e =
    let n = each-next r xs ys i x w.1 (let k : suc i < suc (length xs) = h in omega (arith, k)) e in
    record { item = n.item; last = ap (λ zs. b ∷ zs) n.last; holds = n.holds }

pub item-there : {A : Type 0} (xs : List A) (i : ℕ) → i < length xs → (x : A) × (slice_get xs i ≡ Some x)
item-there [] i h = absurd (let l : i < 0 = h in omega (arith, l))
item-there (x ∷ xs) zero h = (x, refl)
item-there (x ∷ xs) (suc i) h = item-there xs i (let l : suc i < suc (length xs) = h in omega (arith, l))

-- code in a heap that grew
head-kept : (vs : ℕ) (g h : Graph) → Grows g h [] [] → (c : HeadShape) (k : RuleHead) → IsHeadCode vs g.nodes c k → IsHeadCode vs h.nodes c k
head-kept vs g h w c k z = record { context = z.context; context_there = z.context_there; pred = z.pred; arity = z.arity; args = compiled-kept vs g h c.args (args_of k.goal) w z.args }

pub heads-kept : (vs : ℕ) (g h : Graph) → Grows g h [] [] → (cs : List HeadShape) (ks : List RuleHead) → AreHeadCodes vs g.nodes cs ks → AreHeadCodes vs h.nodes cs ks
heads-kept vs g h w cs ks z = each-map (IsHeadCode vs g.nodes) (IsHeadCode vs h.nodes) (head-kept vs g h w) cs ks z

rule-kept : (g h : Graph) → Grows g h [] [] → (c : RuleShape) (r : Rule) → IsRuleCode g.nodes c r → IsRuleCode h.nodes c r
rule-kept g h w c r z = record {
  names = z.names;
  variables = z.variables;
  kept = heads-kept c.variables g h w c.kept r.kept z.kept;
  removed = heads-kept c.variables g h w c.removed r.removed z.removed;
  pairs = z.pairs;
  earlier = z.earlier;
  body_context = z.body_context;
  body_context_there = z.body_context_there;
  tests = compiled-kept c.variables g h c.tests r.tests w z.tests;
  body = compiled-kept c.variables g h c.body (option_to_list r.body) w z.body;
}

pub rules-kept : (g h : Graph) → Grows g h [] [] → (cs : List RuleShape) (rs : List Rule) → AreRuleCodes g.nodes cs rs → AreRuleCodes h.nodes cs rs
rules-kept g h w cs rs z = each-map (IsRuleCode g.nodes) (IsRuleCode h.nodes) (rule-kept g h w) cs rs z

-- what of it needs no heap
context-low : (vs : ℕ) (o p : Option ℕ) → o ≡ p → IfSome p (λ v. v < vs) → IfSome o (λ v. v < vs)
context-low vs o p e w = subst (λ (q : Option ℕ). IfSome q (λ v. v < vs)) (sym e) w

head-shape : (vs : ℕ) (nodes : List Node) (c : HeadShape) (k : RuleHead) → IsHeadCode vs nodes c k → IsHeadShapeOf vs c k
head-shape vs nodes c k z = record { context = z.context; low = context-low vs c.context k.context z.context z.context_there; pred = z.pred; arity = z.arity }

pub rule-shape : (nodes : List Node) (c : RuleShape) (r : Rule) → IsRuleCode nodes c r → IsShapeOf c r
rule-shape nodes c r z = record {
  names = z.names;
  variables = z.variables;
  kept = each-map (IsHeadCode c.variables nodes) (IsHeadShapeOf c.variables) (head-shape c.variables nodes) c.kept r.kept z.kept;
  removed = each-map (IsHeadCode c.variables nodes) (IsHeadShapeOf c.variables) (head-shape c.variables nodes) c.removed r.removed z.removed;
  pairs = z.pairs;
  earlier = z.earlier;
  body_context = z.body_context;
  low = context-low c.variables c.body_context r.body_context z.body_context z.body_context_there;
}

-- nodes that are made stay
pub reads-kept : (g h : Graph) → IsSound g → Grows g h [] [] → (d : ℕ) (ts : List TermId) → AllValidAt g ts d → all_read h ts ≡ all_read g ts
reads-kept g h s w d [] v = refl
reads-kept g h s w d (t ∷ ts) v = ap₂ (λ (x : Term) (xs : List Term). x ∷ xs) (ap (λ (x : Value). x.term names) (value-kept g h s w t (valid-below g t.index d v.0))) (reads-kept g h s w d ts v.1)

pub valid-kept : (g h : Graph) → IsSound g → Grows g h [] [] → (d : ℕ) (ts : List TermId) → AllValidAt g ts d → AllValidAt h ts d
valid-kept g h s w d [] v = tt
valid-kept g h s w d (t ∷ ts) v = (ap (λ (x : Value). x.holds d) (value-kept g h s w t (valid-below g t.index d v.0)) ∙ v.0, valid-kept g h s w d ts v.1)

pub row-kept : (g h : Graph) → IsSound g → Grows g h [] [] → (d next : ℕ) (vs : List TermId) → IsRow g d next vs → IsRow h d next vs
row-kept g h s w d next vs r = record {
  there = older-grown g h w vs r.there;
  are = variables-grown g h d next (length vs) vs s w refl r.there r.are;
}

-- the node of a context
pub context-made : (g : Graph) (d next : ℕ) (vs : List TermId) (o : Option ℕ) → IsRow g d next vs → IfSome o (λ v. v < length vs) → IsContextMade g d next (option_map (λ v. get_or vs v (record { index = 0 })) o) o
context-made g d next vs None row low = tt
context-made g d next vs (Some v) row low =
    let fresh = are-fresh g d next (length vs) vs refl row.are in
    (fresh.reads v low, valid-at g d vs fresh.valid v low)

pub context-kept : (g h : Graph) → IsSound g → Grows g h [] [] → (d next : ℕ) (t : Option TermId) (o : Option ℕ) → IsContextMade g d next t o → IsContextMade h d next t o
context-kept g h s w d next None None v = tt
context-kept g h s w d next None (Some x) v = absurd v
context-kept g h s w d next (Some t) None v = absurd v
context-kept g h s w d next (Some t) (Some x) v =
    let same = value-kept g h s w t (valid-below g t.index d v.1) in
    (ap (λ (x : Value). x.term names) same ∙ v.0, ap (λ (x : Value). x.holds d) same ∙ v.1)

pub made-kept : (g h : Graph) → IsSound g → Grows g h [] [] → (d next : ℕ) (is : List HeadInstance) (hs : List RuleHead) → Each (IsHeadMade g d next) is hs → Each (IsHeadMade h d next) is hs
made-kept g h s w d next is hs z = each-map (IsHeadMade g d next) (IsHeadMade h d next)
    (λ i k m. record { context = context-kept g h s w d next i.context k.context m.context; args = reads-kept g h s w d i.args.items m.valid ∙ m.args; valid = valid-kept g h s w d i.args.items m.valid }) is hs z

-- a rule's body
pub plain-option : (o : Option Tree) → option_to_list (option_map (term_of 0) o) ≡ map (term_of 0) (option_to_list o)
plain-option None = refl
plain-option (Some t) = refl
