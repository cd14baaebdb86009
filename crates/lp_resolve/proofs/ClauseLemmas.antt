-- Clauses that were read.
use Rattle.std.proofs.Common.{◌≡◌, ◌∙◌, ◌≤◌, ℕ, ap, sym, length, List, [], take, length-take, arith, subst}
use Rattle.lp_parser.specs.declared.ast.Clause.{Clause}
use Rattle.ref_terms.specs.declared.tree.Tree.{Tree}
use Rattle.lp_resolve.specs.Variables.{Met, nothing_met}
use Rattle.lp_resolve.specs.Reading.{reading}
use Rattle.lp_resolve.specs.Treed.{tree_of}
use Rattle.lp_resolve.specs.Trees.{IsFormed}
use Rattle.lp_resolve.specs.Occurrences.{occurrences}
use Rattle.lp_resolve.specs.WellFormed.{IsClauseFormed}
use Rattle.lp_resolve.specs.ProgramReading.{head_and_body, read_tree, clause_with, clause_of}
use Rattle.lp_resolve.proofs.ReadingFacts.{reading-formed}
use Rattle.lp_resolve.proofs.PlacesFacts.{reading-places}
use Rattle.lp_resolve.proofs.FormedLemmas.{is_parted, formed-parted, places-parted}

-- a clause whose tree and variables were read is the clause of the text
pub clause_with-read : (later : List (List ℕ)) (c : Clause) (start : Met) (tree : Tree) (met : Met) → start ≡ nothing_met
    → read_tree later start c.term ≡ record { value = tree; met = met } → clause_with c met (head_and_body tree) ≡ clause_of later c
clause_with-read later c start tree met none e =
    sym (ap (λ r. clause_with c r.met (head_and_body r.value)) e)
    ∙ ap (λ s. clause_with c (read_tree later s c.term).met (head_and_body (read_tree later s c.term).value)) none

-- it is well formed
pub clause_with-formed : (c : Clause) (tree : Tree) (met : Met) → IsFormed (length met.names) 0 tree → length (occurrences tree) ≤ length met.places
    → IsClauseFormed (clause_with c met (head_and_body tree))
clause_with-formed c tree met formed enough =
    let parts = formed-parted (length met.names) 0 tree (head_and_body tree) (is_parted tree) formed in
    let few = places-parted tree (head_and_body tree) (is_parted tree) in
    record {
      head = parts.0;
      body = parts.1;
      var_places = simp length-take (omega arith);
    }

-- a clause of the text is well formed
pub clause_of-formed : (table : List (List ℕ)) (c : Clause) → IsClauseFormed (clause_of table c)
clause_of-formed table c =
    let places = reading-places table c.term nothing_met in
    let enough : length (occurrences (tree_of (reading table c.term [] nothing_met).term)) ≤ length (reading table c.term [] nothing_met).met.places = omega arith in
    clause_with-formed c (tree_of (reading table c.term [] nothing_met).term) (reading table c.term [] nothing_met).met (reading-formed table c.term nothing_met) enough
