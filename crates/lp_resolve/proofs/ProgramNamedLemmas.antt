-- The symbols of what a program is read as are those of the table, where it has the program's texts.
use Rattle.std.proofs.Common.{◌≡◌, ◌∙◌, ◌+◌, ◌≤◌, ◌<◌, ℕ, List, [], ◌∷◌, ◌++◌, Option, Some, None, IfSome, All, length, map, flat_map, ap, sym, refl, subst, arith, length-append}
use Rattle.std.proofs.lemmas.List.{map-append}
use Rattle.std.proofs.lemmas.List.Elements.{All-nil, All-cons, All-append, All-map, All-head, All-tail}
use Rattle.lp_parser.specs.declared.ast.AstTerm.{AstTerm}
use Rattle.lp_parser.specs.declared.ast.Word.{Word}
use Rattle.lp_parser.specs.declared.ast.WordPair.{WordPair}
use Rattle.lp_parser.specs.declared.ast.RuleHead.{RuleHead}
use Rattle.lp_parser.specs.declared.ast.Rule.{Rule}
use Rattle.lp_parser.specs.declared.ast.Clause.{Clause}
use Rattle.lp_parser.specs.declared.ast.Block.{Block}
use Rattle.lp_parser.specs.declared.ast.Decl.{Decl}
use Rattle.lp_parser.specs.declared.ast.Decl.TheVariants.{KindDecl, TypeDecl, PredDecl}
use Rattle.lp_parser.specs.declared.ast.Item.{Item}
use Rattle.lp_parser.specs.declared.ast.Item.TheVariants as item
use Rattle.ref_terms.specs.terms.Term.{Term}
use Rattle.ref_terms.specs.declared.sym.Sym.{Sym}
use Rattle.ref_terms.specs.declared.tree.Tree.{Tree}
use Rattle.ref_terms.specs.declared.tree.Tree.TheVariants.{Ap}
use Rattle.lp_resolve.specs.Symbols.{number_of, reserved_names, Begins}
use Rattle.lp_resolve.specs.Variables.{Met, nothing_met, met_word}
use Rattle.lp_resolve.specs.Reading.{reading}
use Rattle.lp_resolve.specs.Treed.{tree_of}
use Rattle.lp_resolve.specs.Trees.{as_term}
use Rattle.lp_resolve.specs.inside.Named.{IsNamed}
use Rattle.lp_resolve.specs.Texts.{texts_of}
use Rattle.lp_resolve.specs.ProgramTexts.{word_texts, term_texts, head_texts, pair_texts, rule_texts, block_texts, item_texts, program_texts}
use Rattle.lp_resolve.specs.declared.program.ClauseTree.{ClauseTree}
use Rattle.lp_resolve.specs.declared.program.PairTree.{PairTree}
use Rattle.lp_resolve.specs.declared.program.PredLine.{PredLine}
use Rattle.lp_resolve.specs.declared.placed.PlacedHead.{PlacedHead}
use Rattle.lp_resolve.specs.ProgramReading.{Read, read_all, read_option, read_variable, read_tree, read_head, read_pair, symbol_of, clause_of, head_and_body, rule_of, lines_of, item_lines, item_clauses, item_rules, program_of}
use Rattle.lp_resolve.specs.inside.ProgramNamed.{IsTreeNamed, IsClauseNamed, IsRuleNamed, IsProgramNamed}
use Rattle.lp_resolve.proofs.TreeForms.{term-ap}
use Rattle.lp_resolve.proofs.TreeOf.{as_term-tree_of}
use Rattle.lp_resolve.proofs.FormedLemmas.{IsParted, alone, two, is_parted}
use Rattle.lp_resolve.proofs.ReadingFacts.{reads-well}
use Rattle.lp_resolve.proofs.ReadingNamed.{AreIn, in-parts, AreNamesIn, names-word, reading-known}

-- head and body of a named tree are named
parted-named : (n : ℕ) (t : Tree) (p : Tree × Option Tree) → IsParted t p → IsTreeNamed n t → IsTreeNamed n p.0 × IfSome p.1 (IsTreeNamed n)
parted-named n t p alone h = (h, tt)
parted-named n t p (two head a b e) h =
    let parts = subst (IsNamed n) (ap as_term e ∙ term-ap head (a ∷ b ∷ [])) h in
    (parts.0.1, parts.1)

-- a way to read that keeps to the table's symbols, where their texts are there
pub record Keeps {A B : Type 0} (n : ℕ) (texts : A → List (List ℕ)) (table : List (List ℕ)) (read : Met → A → Read B) (P : B → Type 0) : Type 0 where
  pub names : (met : Met) (x : A) → AreIn table (texts x) → AreNamesIn n met.names → AreNamesIn n (read met x).met.names
  pub value : (met : Met) (x : A) → AreIn table (texts x) → AreNamesIn n met.names → P (read met x).value

module _ {A B : Type 0} (n : ℕ) (texts : A → List (List ℕ)) (table : List (List ℕ)) (read : Met → A → Read B) (P : B → Type 0) (keeps : Keeps n texts table read P) where
  -- items from the left
  all-names : (met : Met) (xs : List A) → AreIn table (flat_map texts xs) → AreNamesIn n met.names → AreNamesIn n (read_all read met xs).met.names
  all-names met [] t h = h
  all-names met (x ∷ xs) t h =
      let parts = in-parts table (texts x) (flat_map texts xs) t in
      all-names (read met x).met xs parts.1 (keeps.names met x parts.0 h)

  all-values : (met : Met) (xs : List A) → AreIn table (flat_map texts xs) → AreNamesIn n met.names → All P (read_all read met xs).value
  all-values met [] t h = All-nil P
  all-values met (x ∷ xs) t h =
      let parts = in-parts table (texts x) (flat_map texts xs) t in
      All-cons P (read met x).value (read_all read (read met x).met xs).value (keeps.value met x parts.0 h)
      (all-values (read met x).met xs parts.1 (keeps.names met x parts.0 h))

module _ (table : List (List ℕ)) (lt : 25 ≤ length table) where
  -- a term
  tree-keeps : Keeps (length table) texts_of table (read_tree table) (IsTreeNamed (length table))
  tree-keeps = record {
    names = λ met t in_table h. (reading-known t table lt in_table [] met h).names;
    value = λ met t in_table h.
        let r = reading table t [] met in
        subst (IsNamed (length table)) (sym (as_term-tree_of (length r.met.names) 0 r.term (reads-well t table [] met).within))
        (reading-known t table lt in_table [] met h).term;
  }

  -- a variable outside terms
  variable-names : (met : Met) (w : Word) → number_of table w.text < length table → AreNamesIn (length table) met.names → AreNamesIn (length table) (read_variable table met w).met.names
  variable-names met w in_table h = names-word (length table) (number_of table w.text) met.names h in_table

  -- a head of a rule
  head-keeps : Keeps (length table) head_texts table (read_head table) (λ h. IsTreeNamed (length table) h.head.goal)
  head-keeps = record {
    names = λ met h in_table known.
        let parts = in-parts table (word_texts h.context) (texts_of h.goal) in_table in
        tree-keeps.names (read_option (read_variable table) met h.context).met h.goal parts.1 (context met h.context parts.0 known);
    value = λ met h in_table known.
        let parts = in-parts table (word_texts h.context) (texts_of h.goal) in_table in
        tree-keeps.value (read_option (read_variable table) met h.context).met h.goal parts.1 (context met h.context parts.0 known);
  } where
    context : (met : Met) (o : Option Word) → AreIn table (word_texts o) → AreNamesIn (length table) met.names → AreNamesIn (length table) (read_option (read_variable table) met o).met.names
    context met None t h = h
    context met (Some w) t h = variable-names met w t.0 h

  -- a pair
  pair-keeps : Keeps (length table) pair_texts table (read_pair table) (λ p. Unit {0})
  pair-keeps = record {
    names = λ met p in_table h. variable-names (read_variable table met p.left).met p.right in_table.1.0 (variable-names met p.left in_table.0 h);
    value = λ met p in_table h. tt;
  }

  -- a term that may be missing
  option-value : (met : Met) (o : Option AstTerm) → AreIn table (term_texts o) → AreNamesIn (length table) met.names → IfSome (read_option (read_tree table) met o).value (IsTreeNamed (length table))
  option-value met None t h = tt
  option-value met (Some x) t h = tree-keeps.value met x t h

  -- a clause
  clause-named : (c : Clause) → AreIn table (texts_of c.term) → IsClauseNamed (length table) (clause_of table c)
  clause-named c in_table =
      let t = (read_tree table nothing_met c.term).value in
      let parts = parted-named (length table) t (head_and_body t) (is_parted t) (tree-keeps.value nothing_met c.term in_table tt) in
      record { head = parts.0; body = parts.1 }

  -- a rule
  rule-named : (names : List Sym) → All (λ s. s.0 < length table) names → (r : Rule) → AreIn table (rule_texts r) → IsRuleNamed (length table) (rule_of table names r)
  rule-named names known r in_table =
      let n = length table in
      let p1 = in-parts table (flat_map head_texts r.kept ++ flat_map head_texts r.removed ++ flat_map pair_texts r.pairs ++ flat_map texts_of r.tests) (term_texts r.body) in_table in
      let p2 = in-parts table (flat_map head_texts r.kept ++ flat_map head_texts r.removed ++ flat_map pair_texts r.pairs) (flat_map texts_of r.tests) p1.0 in
      let p3 = in-parts table (flat_map head_texts r.kept ++ flat_map head_texts r.removed) (flat_map pair_texts r.pairs) p2.0 in
      let p4 = in-parts table (flat_map head_texts r.kept) (flat_map head_texts r.removed) p3.0 in
      let kept = read_all (read_head table) nothing_met r.kept in
      let removed = read_all (read_head table) kept.met r.removed in
      let pairs = read_all (read_pair table) removed.met r.pairs in
      let tests = read_all (read_tree table) pairs.met r.tests in
      let k1 = all-names n head_texts table (read_head table) (λ h. IsTreeNamed n h.head.goal) head-keeps nothing_met r.kept p4.0 tt in
      let k2 = all-names n head_texts table (read_head table) (λ h. IsTreeNamed n h.head.goal) head-keeps kept.met r.removed p4.1 k1 in
      let k3 = all-names n pair_texts table (read_pair table) (λ p. Unit {0}) pair-keeps removed.met r.pairs p3.1 k2 in
      let k4 = all-names n texts_of table (read_tree table) (IsTreeNamed n) tree-keeps pairs.met r.tests p2.1 k3 in
      record {
        names = known;
        heads = subst (All (IsTreeNamed n)) (sym (map-append (λ h. h.goal) (map (λ h. h.head) kept.value) (map (λ h. h.head) removed.value)))
            (All-append (IsTreeNamed n) (map (λ h. h.goal) (map (λ h. h.head) kept.value)) (map (λ h. h.goal) (map (λ h. h.head) removed.value))
            (All-map (IsTreeNamed n) (λ h. h.goal) (map (λ h. h.head) kept.value) (All-map (λ h. IsTreeNamed n h.goal) (λ h. h.head) kept.value
            (all-values n head_texts table (read_head table) (λ h. IsTreeNamed n h.head.goal) head-keeps nothing_met r.kept p4.0 tt)))
            (All-map (IsTreeNamed n) (λ h. h.goal) (map (λ h. h.head) removed.value) (All-map (λ h. IsTreeNamed n h.goal) (λ h. h.head) removed.value
            (all-values n head_texts table (read_head table) (λ h. IsTreeNamed n h.head.goal) head-keeps kept.met r.removed p4.1 k1))));
        tests = all-values n texts_of table (read_tree table) (IsTreeNamed n) tree-keeps pairs.met r.tests p2.1 k3;
        body = option-value tests.met r.body p1.1 k4;
      }

  -- the symbols of words
  symbols-named : (ws : List Word) → AreIn table (map (λ w. w.text) ws) → All (λ s. s.0 < length table) (map (symbol_of table) ws)
  symbols-named [] t = All-nil (λ s. s.0 < length table)
  symbols-named (w ∷ ws) t = All-cons (λ s. s.0 < length table) (symbol_of table w) (map (symbol_of table) ws) t.0 (symbols-named ws t.1)

  -- rules
  rules-named : (names : List Sym) → All (λ s. s.0 < length table) names → (rs : List Rule) → AreIn table (flat_map rule_texts rs) → All (IsRuleNamed (length table)) (map (rule_of table names) rs)
  rules-named names known [] t = All-nil (IsRuleNamed (length table))
  rules-named names known (r ∷ rs) t =
      let parts = in-parts table (rule_texts r) (flat_map rule_texts rs) t in
      All-cons (IsRuleNamed (length table)) (rule_of table names r) (map (rule_of table names) rs) (rule-named names known r parts.0) (rules-named names known rs parts.1)

  -- an item's parts
  item_lines-named : (i : Item) → AreIn table (item_texts i) → All (λ d. d.name.0 < length table) (item_lines table i)
  item_lines-named (item.Decl (KindDecl names arrows)) t = All-nil (λ d. d.name.0 < length table)
  item_lines-named (item.Decl (TypeDecl names ty)) t = All-nil (λ d. d.name.0 < length table)
  item_lines-named (item.Decl (PredDecl name args)) t = All-cons (λ d. d.name.0 < length table) _ [] t.0 (All-nil (λ d. d.name.0 < length table))
  item_lines-named (item.Clause c) t = All-nil (λ d. d.name.0 < length table)
  item_lines-named (item.Block b) t = All-nil (λ d. d.name.0 < length table)

  item_clauses-named : (i : Item) → AreIn table (item_texts i) → All (IsClauseNamed (length table)) (item_clauses table i)
  item_clauses-named (item.Decl d) t = All-nil (IsClauseNamed (length table))
  item_clauses-named (item.Clause c) t = All-cons (IsClauseNamed (length table)) _ [] (clause-named c t) (All-nil (IsClauseNamed (length table)))
  item_clauses-named (item.Block b) t = All-nil (IsClauseNamed (length table))

  item_rules-named : (i : Item) → AreIn table (item_texts i) → All (IsRuleNamed (length table)) (item_rules table i)
  item_rules-named (item.Decl d) t = All-nil (IsRuleNamed (length table))
  item_rules-named (item.Clause c) t = All-nil (IsRuleNamed (length table))
  item_rules-named (item.Block b) t =
      let parts = in-parts table (map (λ w. w.text) b.names) (flat_map rule_texts b.rules) t in
      rules-named (map (symbol_of table) b.names) (symbols-named b.names parts.0) b.rules parts.1

  -- what holds of all that each item gives
  all-items : {B : Type 0} (P : B → Type 0) (f : Item → List B) → ((i : Item) → AreIn table (item_texts i) → All P (f i)) → (is : List Item) → AreIn table (program_texts is) → All P (flat_map f is)
  all-items P f each [] t = All-nil P
  all-items P f each (i ∷ is) t =
      let parts = in-parts table (item_texts i) (program_texts is) t in
      All-append P (f i) (flat_map f is) (each i parts.0) (all-items P f each is parts.1)

  -- a program
  pub program_of-named : (items : List Item) → AreIn table (program_texts items) → IsProgramNamed (length table) (program_of table items)
  program_of-named items t = record {
    clauses = all-items (IsClauseNamed (length table)) (item_clauses table) item_clauses-named items t;
    rules = all-items (IsRuleNamed (length table)) (item_rules table) item_rules-named items t;
    decls = all-items (λ d. d.name.0 < length table) (item_lines table) item_lines-named items t;
  }

-- a table with the reserved names has 25 at least
pub reserved-long : (table : List (List ℕ)) → Begins reserved_names table → 25 ≤ length table
reserved-long table b =
    let long : length table ≡ 25 + length b.more = ap (λ (t : List (List ℕ)). length t) b.is ∙ length-append reserved_names b.more in
    omega arith
