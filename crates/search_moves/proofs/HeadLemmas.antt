-- Inputs first, and then outputs.
use Rattle.std.proofs.Common.{◌≡◌, ℕ, ◌<◌, Bool, true, false, MatchBool, List, [], ◌∷◌, ◌++◌, length, map, refl, sym, ap, ap₂, ◌∙◌, arith}
use Rattle.level_terms.specs.declared.node.TermId.{TermId}
use Rattle.level_terms.specs.Graph.{Graph}
use Rattle.level_terms.specs.Reading.{read}
use Rattle.beta_fragment.specs.Names.{names}
use Rattle.beta_fragment.specs.HeadForm.{all_read, AllValidAt}
use Rattle.beta_fragment.specs.declared.answer.UnifyStop.{UnifyStop}
use Rattle.beta_fragment.specs.declared.answer.UnifyStop.TheVariants.{Fault, Memory}
use Rattle.level_terms.proofs.ReadLemmas.{valid-below, read-built}
use Rattle.pattern_unify.specs.Answers.{ReadsUnder, AnswersTrue, AnswersFalse, StopsSo}
use Rattle.pattern_unify.proofs.KeptLemmas.{grown-nodes}
use Rattle.ref_terms.specs.ending.Progress.{AreBuilt}
use Rattle.ref_terms.specs.terms.Term.{Term}
use Rattle.ref_terms.specs.unification.Problem.{Problem, Equation, Binding, Solved}
use Rattle.ref_terms.specs.unification.Unification.{unify}
use Rattle.ref_terms.specs.search.Branch.{Branch, bound, bound_equation, bound_branch}
use Rattle.ref_terms.specs.search.Resolve.{Fits, Breaks, equations_at, matched, unified}
use Rattle.search_moves.specs.Moves.{Growing}
use Rattle.search_moves.specs.Solving.{problem_of_all}
use Rattle.search_moves.specs.Matching.{tried_at, HeadFits, HeadClashes, HeadStops}
use Rattle.search_moves.proofs.BuiltValues.{values-append, unify-built}
use Rattle.search_moves.proofs.SolveLemmas.{bound-append}

-- bindings on the equations of arguments
equations-bound : (bs : List Binding) (mode : Bool) (depth : ℕ) (ms : List Bool) (ss ts : List Term) → equations_at mode depth ms (map (bound bs) ss) (map (bound bs) ts) ≡ map (bound_equation bs) (equations_at mode depth ms ss ts)
equations-bound bs mode depth [] ss ts = refl
equations-bound bs mode depth (true ∷ ms) [] ts = refl
equations-bound bs mode depth (false ∷ ms) [] ts = refl
equations-bound bs mode depth (true ∷ ms) (s ∷ ss) [] = refl
equations-bound bs mode depth (false ∷ ms) (s ∷ ss) [] = refl
equations-bound bs true depth (true ∷ ms) (s ∷ ss) (t ∷ ts) = ap (λ (es : List Equation). record { names = depth; left = bound bs s; right = bound bs t } ∷ es) (equations-bound bs true depth ms ss ts)
equations-bound bs false depth (true ∷ ms) (s ∷ ss) (t ∷ ts) = equations-bound bs false depth ms ss ts
equations-bound bs true depth (false ∷ ms) (s ∷ ss) (t ∷ ts) = equations-bound bs true depth ms ss ts
equations-bound bs false depth (false ∷ ms) (s ∷ ss) (t ∷ ts) = ap (λ (es : List Equation). record { names = depth; left = bound bs s; right = bound bs t } ∷ es) (equations-bound bs false depth ms ss ts)

pub nodes-bound : (g h : Graph) (bs : List Binding) (depth : ℕ) → ((t : ℕ) (env : ℕ → Term) → t < length g.nodes → read h t env ≡ bound bs (read g t env)) → (ts : List TermId) → AllValidAt g ts depth → all_read h ts ≡ map (bound bs) (all_read g ts)
nodes-bound g h bs depth e [] v = refl
nodes-bound g h bs depth e (t ∷ ts) v =
    ap₂ (λ (x : Term) (xs : List Term). x ∷ xs) (e t.index names (valid-below g t.index depth v.0)) (nodes-bound g h bs depth e ts v.1)

-- what nodes read as is built
equations-built : (g : Graph) (mode : Bool) (depth : ℕ) (ms : List Bool) (hs ts : List TermId) → AreBuilt (equations_at mode depth ms (all_read g hs) (all_read g ts))
equations-built g mode depth [] hs ts = tt
equations-built g mode depth (true ∷ ms) [] ts = tt
equations-built g mode depth (false ∷ ms) [] ts = tt
equations-built g mode depth (true ∷ ms) (h ∷ hs) [] = tt
equations-built g mode depth (false ∷ ms) (h ∷ hs) [] = tt
equations-built g true depth (true ∷ ms) (h ∷ hs) (t ∷ ts) = ((read-built g h.index names, read-built g t.index names), equations-built g true depth ms hs ts)
equations-built g false depth (true ∷ ms) (h ∷ hs) (t ∷ ts) = equations-built g false depth ms hs ts
equations-built g true depth (false ∷ ms) (h ∷ hs) (t ∷ ts) = equations-built g true depth ms hs ts
equations-built g false depth (false ∷ ms) (h ∷ hs) (t ∷ ts) = ((read-built g h.index names, read-built g t.index names), equations-built g false depth ms hs ts)

module _ (mark depth : ℕ) (ms : List Bool) (hs ts : List TermId) (g : Graph) (hs-valid : AllValidAt g hs depth) (ts-valid : AllValidAt g ts depth) where
  module _ (h : Graph) (q : Problem) (solved : unify mark (problem_of_all g true depth ms hs ts) ≡ Solved q) (under : ReadsUnder g h q) where
    reads : (t : ℕ) (env : ℕ → Term) → t < length g.nodes → read h t env ≡ bound q.bindings (read g t env)
    reads t env k = under.readings t env k

    -- the outputs, as the heap has them after the inputs
    then-outputs : (b : Branch) → tried_at g mark depth ms hs ts b ≡ unified b q.bindings (unify 0 (problem_of_all h false depth ms hs ts))
    then-outputs b =
        let es : equations_at false depth ms (all_read h hs) (all_read h ts) ≡ map (bound_equation q.bindings) (equations_at false depth ms (all_read g hs) (all_read g ts)) =
        ap₂ (equations_at false depth ms) (nodes-bound g h q.bindings depth reads hs hs-valid) (nodes-bound g h q.bindings depth reads ts ts-valid)
        ∙ equations-bound q.bindings false depth ms (all_read g hs) (all_read g ts) in
        ap (matched unify b (equations_at false depth ms (all_read g hs) (all_read g ts))) solved
        ∙ ap₂ (λ n xs. unified b q.bindings (unify 0 (record { next_var = n; equations = xs; bindings = [] }))) (sym under.variables) (sym es)

    pub outputs-clash : AnswersFalse 0 (problem_of_all h false depth ms hs ts) → HeadClashes mark depth ms hs ts g
    outputs-clash (knot, clash) = λ b. then-outputs b ∙ ap (unified b q.bindings) clash

    pub outputs-stop : (stop : UnifyStop) → StopsSo 0 (problem_of_all h false depth ms hs ts) stop → HeadStops mark depth ms hs ts g stop
    outputs-stop (Fault e) (u, is, faulted) = λ b. then-outputs b ∙ ap (unified b q.bindings) faulted ∙ ap Breaks (sym is)
    outputs-stop Memory k = tt

    pub outputs-fit : (new : Graph) → Growing g h → AnswersTrue 0 h new (problem_of_all h false depth ms hs ts) → HeadFits mark depth ms hs ts g new
    outputs-fit new grows (r, solved', under') =
        let more = grown-nodes g h grows.before grows.after grows.grows in
        let values = unify-built mark (problem_of_all g true depth ms hs ts) q (equations-built g true depth ms hs ts) tt solved in
        let values' = unify-built 0 (problem_of_all h false depth ms hs ts) r (equations-built h false depth ms hs ts) tt solved' in
        record {
          made = r.bindings ++ q.bindings;
          built = values-append r.bindings q.bindings values' values;
          fits = λ b. then-outputs b ∙ ap (unified b q.bindings) solved' ∙ ap (λ n. Fits (bound_branch (r.bindings ++ q.bindings) n b)) (sym under'.variables);
          readings = λ t env k. under'.readings t env (omega (arith, k, more)) ∙ ap (bound r.bindings) (reads t env k) ∙ sym (bound-append r.bindings q.bindings (read g t env));
        }

pub both-ways : (A B X Y : Type 0) (b : Bool) → (A → B) → (X → Y) → MatchBool b A X → MatchBool b B Y
both-ways A B X Y true f g h = f h
both-ways A B X Y false f g h = g h
