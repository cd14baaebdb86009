-- The query of what was read.
use Rattle.std.proofs.Common.{◌≡◌, ◌∙◌, ℕ, ◌≤◌, List, [], ◌∷◌, length, map, ap, sym, subst, arith, length-append}
use Rattle.std.proofs.lemmas.List.{length-map}
use Rattle.lp_parser.specs.declared.ast.AstTerm.{AstTerm}
use Rattle.lp_parser.specs.declared.ast.AstGoal.{AstGoal}
use Rattle.ref_terms.specs.declared.tree.Tree.{Tree}
use Rattle.lp_resolve.specs.declared.query.Query.{Query}
use Rattle.lp_resolve.specs.declared.query.QueryVar.{QueryVar}
use Rattle.lp_resolve.specs.declared.variable.Variable.{Variable}
use Rattle.lp_resolve.specs.Symbols.{reserved_names, Begins}
use Rattle.lp_resolve.specs.Texts.{texts_of}
use Rattle.lp_resolve.specs.inside.Named.{AreVarsNamed, IsQueryNamed}
use Rattle.lp_resolve.specs.Variables.{Met, nothing_met}
use Rattle.lp_resolve.specs.Trees.{as_term, IsFormed}
use Rattle.lp_resolve.specs.Treed.{tree_of}
use Rattle.lp_resolve.specs.Reading.{Reading, reading}
use Rattle.lp_resolve.specs.Reads.{IsRead}
use Rattle.lp_resolve.specs.Queries.{query_var, query_at, query_of, IsFormedQuery}
use Rattle.lp_resolve.proofs.ReadingFacts.{reading-formed}
use Rattle.lp_resolve.proofs.ReadingForms.{begins-same}
use Rattle.lp_resolve.proofs.ReadingNamed.{AreIn, AreNamesIn, AreKnown, reading-known}
use Rattle.lp_resolve.proofs.TreeOf.{tree_of-as_term}

-- the words of variables are those of the query's
vars-named : (n : ℕ) (table : List (List ℕ)) (names : List Variable) → AreNamesIn n names → AreVarsNamed n (map (query_var table) names)
vars-named n table [] h = tt
vars-named n table (v ∷ vs) h = (h.0, vars-named n table vs h.1)

module _ (table : List (List ℕ)) (t : AstTerm) (after : Met) (tree : Tree) (vars : List QueryVar) (read : IsRead table [] nothing_met t after tree) (are : vars ≡ map (query_var table) after.names) where
  -- what was read
  here : reading table t [] nothing_met ≡ record { term = as_term tree; met = after }
  here = read.reads table (begins-same table)

  -- the query is that of the goal
  pub query-read : record { vars = vars; goal = tree } ≡ query_at table (reading table t [] nothing_met)
  query-read =
      ap (λ (vs : List QueryVar). record { vars = vs; goal = tree }) are
      ∙ ap (λ (g : Tree). record { vars = map (query_var table) after.names; goal = g }) (sym (tree_of-as_term tree read.fits))
      ∙ ap (query_at table) (sym here)

  -- and it is well formed
  pub query-formed : IsFormed (length vars) 0 tree
  query-formed =
      let formed = subst (λ (r : Reading). IsFormed (length r.met.names) 0 (tree_of r.term)) here (reading-formed table t nothing_met) in
      let long : length after.names ≡ length vars = sym (ap (λ (vs : List QueryVar). length vs) are ∙ length-map after.names (query_var table)) in
      subst (λ (n : ℕ). IsFormed n 0 tree) long (subst (λ (g : Tree). IsFormed (length after.names) 0 g) (tree_of-as_term tree read.fits) formed)

  -- and its symbols are the table's, where the table has the term's texts and begins with the reserved names
  pub query-named : Begins reserved_names table → AreIn table (texts_of t) → IsQueryNamed (length table) (record { vars = vars; goal = tree })
  query-named reserved are-in =
      let many : 25 ≤ length table = omega (arith, ap (λ (ts : List (List ℕ)). length ts) reserved.is, length-append reserved_names reserved.more) in
      let known = subst (AreKnown (length table)) here (reading-known t table many are-in [] nothing_met tt) in
      record {
        vars = subst (AreVarsNamed (length table)) (sym are) (vars-named (length table) table after.names known.names);
        goal = known.term;
      }
