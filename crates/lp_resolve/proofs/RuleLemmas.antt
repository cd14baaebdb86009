-- Parts of rules that were read.
use Rattle.std.proofs.Common.{◌≡◌, ◌∙◌, ℕ, List, Option, length, drop, ap, sym}
use Rattle.lp_parser.specs.declared.ast.Place.{Place}
use Rattle.lp_parser.specs.declared.ast.WordPair.{WordPair}
use Rattle.lp_parser.specs.declared.ast.RuleHead.{RuleHead}
use Rattle.lp_parser.specs.declared.ast.Rule.{Rule}
use Rattle.ref_terms.specs.declared.sym.Sym.{Sym}
use Rattle.ref_terms.specs.declared.tree.Tree.{Tree}
use Rattle.lp_resolve.specs.declared.program.HeadTree.{HeadTree}
use Rattle.lp_resolve.specs.declared.program.PairTree.{PairTree}
use Rattle.lp_resolve.specs.declared.placed.PlacedHead.{PlacedHead}
use Rattle.lp_resolve.specs.declared.placed.RuleParts.{RuleParts}
use Rattle.lp_resolve.specs.Places.{first_token}
use Rattle.lp_resolve.specs.Symbols.{Begins}
use Rattle.lp_resolve.specs.Variables.{Met, nothing_met}
use Rattle.lp_resolve.specs.ProgramReading.{Read, read_all, read_option, read_variable, read_tree, read_pair, read_head, read_parts, rule_with, rule_of}
use Rattle.lp_resolve.specs.inside.ReadsAs.{ReadsAs}
use Rattle.lp_resolve.proofs.BeginsLemmas.{begins-trans}

-- a pair, after its left word what is left
abbrev with_left : List (List ℕ) → WordPair → Read ℕ → Read PairTree
with_left table p left = let right = read_variable table left.met p.right in record { value = record { left = left.value; right = right.value }; met = right.met }

-- a pair is read from its two words
pub pair-read : (first next : List (List ℕ)) (before met after : Met) (p : WordPair) (left right : ℕ)
    → ReadsAs read_variable first before p.left left met → Begins first next → ReadsAs read_variable next met p.right right after
    → ReadsAs read_pair next before p (record { left = left; right = right }) after
pair-read first next before met after p left right l b r = record {
  is = λ later c.
      ap (with_left later p) (l.is later (begins-trans b c))
      ∙ ap (λ (it : Read ℕ). record { value = record { left = left; right = it.value }; met = it.met }) (r.is later c);
}

-- a head whose context and goal are these
abbrev placed : RuleHead → (met : Met) → Option ℕ → Read Tree → Read PlacedHead
placed h met context goal = record {
  value = record { head = record { context = context; goal = goal.value }; place = first_token h.goal; vars = drop (length met.places) goal.met.places };
  met = goal.met;
}

-- a head is read from its context and its goal
pub head-read : (first next : List (List ℕ)) (before met after : Met) (h : RuleHead) (context : Option ℕ) (goal : Tree) (place : Place) (vars : List Place)
    → ReadsAs (λ t. read_option (read_variable t)) first before h.context context met → Begins first next → ReadsAs read_tree next met h.goal goal after
    → place ≡ first_token h.goal → vars ≡ drop (length met.places) after.places
    → ReadsAs read_head next before h (record { head = record { context = context; goal = goal }; place = place; vars = vars }) after
head-read first next before met after h context goal place vars x b g at from = record {
  is = λ later c.
      ap (λ (it : Read (Option ℕ)). placed h it.met it.value (read_tree later it.met h.goal)) (x.is later (begins-trans b c))
      ∙ ap (placed h met context) (g.is later c)
      ∙ ap (λ (vs : List Place). record { value = record { head = record { context = context; goal = goal }; place = first_token h.goal; vars = vs }; met = after }) (sym from)
      ∙ ap (λ (q : Place). record { value = record { head = record { context = context; goal = goal }; place = q; vars = vars }; met = after }) (sym at);
}

-- a rule's parts, from its body on
abbrev from_body : List PlacedHead → List PlacedHead → List PairTree → List Tree → Read (Option Tree) → Read RuleParts
from_body kept removed pairs tests body = record { value = record { kept = kept; removed = removed; pairs = pairs; tests = tests; body = body.value }; met = body.met }

-- from its tests on
abbrev from_tests : List (List ℕ) → Rule → List PlacedHead → List PlacedHead → List PairTree → Read (List Tree) → Read RuleParts
from_tests table r kept removed pairs tests = from_body kept removed pairs tests.value (read_option (read_tree table) tests.met r.body)

-- from its pairs on
abbrev from_pairs : List (List ℕ) → Rule → List PlacedHead → List PlacedHead → Read (List PairTree) → Read RuleParts
from_pairs table r kept removed pairs = from_tests table r kept removed pairs.value (read_all (read_tree table) pairs.met r.tests)

-- from its removed heads on
abbrev from_removed : List (List ℕ) → Rule → List PlacedHead → Read (List PlacedHead) → Read RuleParts
from_removed table r kept removed = from_pairs table r kept removed.value (read_all (read_pair table) removed.met r.pairs)

-- from its kept heads on
abbrev from_kept : List (List ℕ) → Rule → Read (List PlacedHead) → Read RuleParts
from_kept table r kept = from_removed table r kept.value (read_all (read_head table) kept.met r.removed)

module _ (r : Rule) (t1 t2 t3 t4 t5 : List (List ℕ)) (m0 m1 m2 m3 m4 m5 : Met) where
  -- a rule's parts are read from the left
  pub parts-read : (kept removed : List PlacedHead) (pairs : List PairTree) (tests : List Tree) (body : Option Tree)
      → ReadsAs (λ t. read_all (read_head t)) t1 m0 r.kept kept m1 → Begins t1 t2
      → ReadsAs (λ t. read_all (read_head t)) t2 m1 r.removed removed m2 → Begins t2 t3
      → ReadsAs (λ t. read_all (read_pair t)) t3 m2 r.pairs pairs m3 → Begins t3 t4
      → ReadsAs (λ t. read_all (read_tree t)) t4 m3 r.tests tests m4 → Begins t4 t5
      → ReadsAs (λ t. read_option (read_tree t)) t5 m4 r.body body m5
      → ReadsAs read_parts t5 m0 r (record { kept = kept; removed = removed; pairs = pairs; tests = tests; body = body }) m5
  parts-read kept removed pairs tests body k b2 d b3 p b4 s b5 o = record {
    is = λ later c.
        let c4 = begins-trans b5 c in
        let c3 = begins-trans b4 c4 in
        let c2 = begins-trans b3 c3 in
        let c1 = begins-trans b2 c2 in
        ap (from_kept later r) (k.is later c1)
        ∙ ap (from_removed later r kept) (d.is later c2)
        ∙ ap (from_pairs later r kept removed) (p.is later c3)
        ∙ ap (from_tests later r kept removed pairs) (s.is later c4)
        ∙ ap (from_body kept removed pairs tests) (o.is later c);
  }

-- a rule whose parts and variables were read is the rule of the text
pub rule_with-read : (later : List (List ℕ)) (names : List Sym) (r : Rule) (start : Met) (parts : RuleParts) (met : Met) → start ≡ nothing_met
    → read_parts later start r ≡ record { value = parts; met = met } → rule_with names r parts (length met.names) ≡ rule_of later names r
rule_with-read later names r start parts met none e =
    sym (ap (λ (it : Read RuleParts). rule_with names r it.value (length it.met.names)) e)
    ∙ ap (λ (s : Met). rule_with names r (read_parts later s r).value (length (read_parts later s r).met.names)) none
