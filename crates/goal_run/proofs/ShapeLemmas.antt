-- Rules as the search for their instances sees them.
use Rattle.std.proofs.Common.{◌≡◌, ◌∙◌, ℕ, suc, ◌+◌, ◌<◌, List, [], ◌∷◌, ◌++◌, map, length, replicate, get_or, IfSome, option_to_list, Vec, Global, ap, sym, subst, arith, length-append}
use Rattle.std.proofs.lemmas.List.{length-replicate}
use Rattle.level_terms.specs.declared.node.TermId.{TermId}
use Rattle.level_terms.specs.Graph.{Graph}
use Rattle.level_terms.specs.Reading.{read}
use Rattle.beta_fragment.specs.Names.{names}
use Rattle.ref_terms.specs.search.Program.{Rule, RuleHead}
use Rattle.ref_terms.specs.search.Instance.{variable_under}
use Rattle.clause_compile.specs.Rules as code
use Rattle.clause_compile.specs.inside.RuleCodes.{Each}
use Rattle.clause_compile.specs.declared.rules.HeadShape.{HeadShape}
use Rattle.clause_compile.specs.declared.rules.RuleShape.{RuleShape}
use Rattle.clause_compile.specs.declared.rule_instance.HeadInstance.{HeadInstance}
use Rattle.clause_compile.specs.declared.rule_instance.RuleInstance.{RuleInstance}
use Rattle.clause_compile.proofs.RuleLemmas.{each-long}
use Rattle.sequent_rules.specs.declared.rules.HeadShape as seen
use Rattle.sequent_rules.specs.declared.rules.RuleShape as shown
use Rattle.sequent_rules.specs.declared.rules.HeadInstance as head
use Rattle.sequent_rules.specs.Rules.{IsRuleShape, AreHeadShapes, ReadAsVariables, AreHeadsMade, IsRuleMade}
use Rattle.goal_run.specs.inside.Shapes.{head_shape, head_made}
use Rattle.goal_run.proofs.CodeLemmas.{same-valid}

-- kept heads, and after them removed ones
heads-shown : (n : ℕ) (cs ds : List HeadShape) (hs ks : List RuleHead) → Each (code.IsHeadShapeOf n) cs hs → Each (code.IsHeadShapeOf n) ds ks → AreHeadShapes n (map head_shape cs ++ map head_shape ds) (hs ++ ks)
heads-shown n [] [] [] [] w v = tt
heads-shown n [] [] [] (k ∷ ks) w v = absurd v
heads-shown n [] (d ∷ ds) [] [] w v = absurd v
heads-shown n [] (d ∷ ds) [] (k ∷ ks) w v = (record { context = v.0.context; low = v.0.low; pred = v.0.pred; arity = v.0.arity }, heads-shown n [] ds [] ks tt v.1)
heads-shown n [] ds (h ∷ hs) ks w v = absurd w
heads-shown n (c ∷ cs) ds [] ks w v = absurd w
heads-shown n (c ∷ cs) ds (h ∷ hs) ks w v = (record { context = w.0.context; low = w.0.low; pred = w.0.pred; arity = w.0.arity }, heads-shown n cs ds hs ks w.1 v)

-- what of a rule needs no heap
pub rule-shown : (c : RuleShape) (s : shown.RuleShape) (r : Rule) → s.names.items ≡ c.names → s.kept ≡ length c.kept → s.heads.items ≡ map head_shape c.kept ++ map head_shape c.removed → s.pairs.items ≡ c.pairs → s.body_context ≡ c.body_context → code.IsShapeOf c r → IsRuleShape s r
rule-shown c s r names kept heads pairs body w = record {
  names = ap (map (λ k. k.0)) names ∙ w.names;
  kept = kept ∙ each-long (code.IsHeadShapeOf c.variables) c.kept r.kept w.kept;
  heads = subst (λ (hs : List seen.HeadShape). AreHeadShapes r.variables hs (r.kept ++ r.removed)) (sym heads)
      (subst (λ n. AreHeadShapes n (map head_shape c.kept ++ map head_shape c.removed) (r.kept ++ r.removed)) w.variables
      (heads-shown c.variables c.kept c.removed r.kept r.removed w.kept w.removed));
  pairs = pairs ∙ w.pairs;
  earlier = w.earlier;
  body_context = body ∙ w.body_context;
  low = subst (λ o. IfSome o (λ v. v < r.variables)) (sym body) (subst (λ n. IfSome c.body_context (λ v. v < n)) w.variables w.low);
}

-- nodes of variables that are numbered in a row
variables-up : (g : Graph) (depth k : ℕ) (vs : List TermId) → ((v : ℕ) → v < length vs → read g (get_or vs v (record { index = 0 })).index names ≡ variable_under depth (k + v)) → ReadAsVariables g depth k vs
variables-up g depth k [] f = tt
variables-up g depth k (t ∷ vs) f =
    let zeroth : k + 0 ≡ k = omega arith in (
      f 0 (omega arith) ∙ ap (variable_under depth) zeroth,
      variables-up g depth (suc k) vs (λ v l. f (suc v) (omega (arith, l)) ∙ ap (variable_under depth) (let e : k + suc v ≡ suc k + v = omega arith in e)),
    )

-- kept heads that were made, and after them removed ones
heads-made : (g : Graph) (depth next : ℕ) (ms ns : List HeadInstance) (hs ks : List RuleHead) → Each (code.IsHeadMade g depth next) ms hs → Each (code.IsHeadMade g depth next) ns ks → AreHeadsMade g depth next (map head_made ms ++ map head_made ns) (hs ++ ks)
heads-made g depth next [] [] [] [] w v = tt
heads-made g depth next [] [] [] (k ∷ ks) w v = absurd v
heads-made g depth next [] (n ∷ ns) [] [] w v = absurd v
heads-made g depth next [] (n ∷ ns) [] (k ∷ ks) w v = (record { args = v.0.args; valid = same-valid g n.args.items depth v.0.valid }, heads-made g depth next [] ns [] ks tt v.1)
heads-made g depth next [] ns (h ∷ hs) ks w v = absurd w
heads-made g depth next (m ∷ ms) ns [] ks w v = absurd w
heads-made g depth next (m ∷ ms) ns (h ∷ hs) ks w v = (record { args = w.0.args; valid = same-valid g m.args.items depth w.0.valid }, heads-made g depth next ms ns hs ks w.1 v)

-- an instance of a rule
pub rule-made : (r : Rule) (depth : ℕ) (f g : Graph) (m : RuleInstance) (heads : Vec head.HeadInstance Global) → heads.items ≡ map head_made m.kept ++ map head_made m.removed → code.IsRuleOf r depth f g m
    → IsRuleMade r depth f g (record { variables = m.variables; heads = heads; tests = m.tests; body = m.body })
rule-made r depth f g m heads e w = record {
  variables = variables-up g depth (length f.depths) m.variables.items (λ v l. w.fresh.reads v (omega (arith, l, w.fresh.count)));
  variables_valid = same-valid g m.variables.items depth w.fresh.valid;
  count = w.fresh.count;
  next = ap length w.depths ∙ length-append f.depths (replicate r.variables depth) ∙ ap (λ n. length f.depths + n) (length-replicate r.variables depth);
  heads = subst (λ (hs : List head.HeadInstance). AreHeadsMade g depth (length f.depths) hs (r.kept ++ r.removed)) (sym e) (heads-made g depth (length f.depths) m.kept m.removed r.kept r.removed w.kept w.removed);
  tests = w.tests;
  tests_valid = same-valid g m.tests.items depth w.tests_valid;
  body = w.body;
  body_valid = same-valid g (option_to_list m.body) depth w.body_valid;
}
