-- The first state of a search.
use Rattle.std.proofs.Common.{◌≡◌, ℕ, suc, ◌+◌, ◌<◌, List, [], ◌∷◌, map, length, get_or, refl, sym, ap, ap₂, ◌∙◌, arith, subst, length-append}
use Rattle.std.proofs.lemmas.List.{length-replicate}
use Rattle.level_terms.specs.declared.node.Node.{Node}
use Rattle.level_terms.specs.declared.node.TermId.{TermId}
use Rattle.level_terms.specs.Graph.{Graph}
use Rattle.level_terms.specs.Growth.{Grows}
use Rattle.level_terms.specs.Reading.{read}
use Rattle.beta_fragment.specs.HeadForm.{all_read}
use Rattle.beta_fragment.specs.Names.{names}
use Rattle.ref_terms.specs.terms.Term.{Term, At, Var}
use Rattle.ref_terms.specs.unification.Closing.{up_from, names_below}
use Rattle.ref_terms.specs.search.Program.{Program}
use Rattle.ref_terms.specs.search.Instance.{instance}
use Rattle.ref_terms.specs.search.State.{Running}
use Rattle.ref_terms.specs.search.Events.{first_state}
use Rattle.lp_resolve.specs.declared.query.Query.{Query}
use Rattle.lp_resolve.specs.Plain.{plain_query}
use Rattle.clause_compile.specs.Programs.{IsCode}
use Rattle.clause_compile.specs.Queries.{IsQueryOf}
use Rattle.clause_compile.specs.declared.code.Code.{Code}
use Rattle.clause_compile.specs.declared.query.QueryInstance.{QueryInstance}
use Rattle.clause_compile.proofs.BuiltLemmas.{own-instance}
use Rattle.clause_compile.proofs.CodeLemmas.{code-grown, code-oldest}
use Rattle.clause_index.specs.Index.{IsIndexOf}
use Rattle.search_moves.proofs.ListLemmas.{oldest-all}
use Rattle.goal_run.specs.declared.code.ProgramCode.{ProgramCode}
use Rattle.goal_run.specs.inside.Shapes.{AreShapes}
use Rattle.goal_run.specs.inside.Code.{Stands}

-- code that was made before the query's nodes stands over all of them
pub begins : (f h : Graph) (code : Code) (c : ProgramCode) (p : Program) (ns : List Node) → Grows f h [] [] → IsCode (length f.nodes) f code p → c.code ≡ code → AreShapes c.shapes.items p.rules → IsIndexOf p c.index → ns ≡ h.nodes → Stands ns c p
begins f h code c p ns w is e shapes index same = record {
  shared = length f.nodes;
  code = λ n g low over.
      subst (λ (z : Code). IsCode (length f.nodes) g z p) (sym e)
      (code-oldest (length f.nodes) (length h.nodes) n h g code p (omega (arith, ap length w.nodes, length-append w.new_nodes f.nodes)) (omega arith) low (over ∙ same ∙ sym (oldest-all h.nodes))
      (code-grown (length f.nodes) f h [] [] code p w is));
  shapes = shapes;
  index = index;
}

-- nodes of variables that are numbered in a row
reads-up : (g : Graph) (vs : List TermId) (k : ℕ) → ((v : ℕ) → v < length vs → read g (get_or vs v (record { index = 0 })).index names ≡ At (Var (k + v))) → all_read g vs ≡ map (λ v. At (Var v)) (up_from k (length vs))
reads-up g [] k h = refl
reads-up g (t ∷ vs) k h =
    let zeroth : k + 0 ≡ k = omega arith in
    ap₂ (λ (x : Term) (xs : List Term). x ∷ xs) (h 0 (omega arith) ∙ ap (λ (n : ℕ). At (Var n)) zeroth)
    (reads-up g vs (suc k) (λ v l. h (suc v) (omega (arith, l)) ∙ ap (λ (n : ℕ). At (Var n)) (let e : k + suc v ≡ suc k + v = omega arith in e)))

-- the state of the query's instance is that of the query
pub first-is : (q : Query) (h : Graph) (made : QueryInstance) → IsQueryOf (plain_query q) h made
    → Running (record { goals = record { names = 0; assumptions = []; barrier = 0; term = read h made.goal.index names } ∷ []; store = []; fired = []; query = all_read h made.variables.items; next_var = length h.depths; declared = 0; path = [] }) [] ≡ first_state (plain_query q)
first-is q h made w =
    let count = length (plain_query q).variables in
    let term : read h made.goal.index names ≡ instance 0 0 (plain_query q).goal = w.goal ∙ sym (own-instance q.goal) in
    let query : all_read h made.variables.items ≡ map (λ v. At (Var v)) (names_below count) =
    reads-up h made.variables.items 0 (λ v l. w.fresh.reads v (omega (arith, l, w.fresh.count))) ∙ ap (λ (n : ℕ). map (λ v. At (Var v)) (up_from 0 n)) w.fresh.count in
    let next : length h.depths ≡ count = ap length w.depths ∙ length-replicate count 0 in
    λ i. Running (record { goals = record { names = 0; assumptions = []; barrier = 0; term = term i } ∷ []; store = []; fired = []; query = query i; next_var = next i; declared = 0; path = [] }) []
