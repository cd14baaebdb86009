-- Hypothetical clauses under bindings, and in a heap that went back.
use Rattle.std.proofs.Common.{◌≡◌, ℕ, ◌+◌, ◌-◌, ◌<◌, ◌≤◌, ◌&&◌, Bool, List, [], ◌∷◌, map, length, take, drop, refl, sym, ap, ap₂, ◌∙◌, arith, subst, length-drop}
use Rattle.std.proofs.lemmas.List.{take-append-drop}
use Rattle.std.proofs.lemmas.Grind.{common_steps}
use Rattle.ref_terms.specs.terms.Term.{Term}
use Rattle.ref_terms.specs.unification.Problem.{Binding}
use Rattle.ref_terms.specs.search.Assumption.{Assumption}
use Rattle.ref_terms.specs.search.Branch.{bound, bound_assumption}
use Rattle.level_terms.specs.declared.node.Node.{Node}
use Rattle.level_terms.specs.declared.node.TermId.{TermId}
use Rattle.level_terms.specs.declared.node.Change.{Change}
use Rattle.level_terms.specs.declared.node.HeapMark.{HeapMark}
use Rattle.level_terms.specs.Graph.{Graph}
use Rattle.level_terms.specs.Reading.{read}
use Rattle.level_terms.specs.Sound.{AllMade}
use Rattle.level_terms.specs.Undo.{undone, CanUndo}
use Rattle.level_terms.specs.Valid.{IsValid, valid}
use Rattle.level_terms.proofs.GroundLemmas.{ground_normal-undone}
use Rattle.level_terms.proofs.ReadLemmas.{valid-below}
use Rattle.level_terms.proofs.SoundLemmas.{valid-grown}
use Rattle.beta_fragment.specs.Names.{names}
use Rattle.beta_fragment.specs.HeadForm.{all_read, AllValidAt}
use Rattle.hyp_clause.specs.declared.hyp.Hyp.{Hyp}
use Rattle.hyp_clause.specs.Hyps.{assumption_in, nodes_of, all_ground_normal}
use Rattle.hyp_clause.specs.Laws.{AllNodesBelow, IsHypBelow, BindingsReachAssumptions, UndoKeepsHyps, ValidHypsAreBelow}

abbrev Follow : (g h : Graph) → List Binding → Type 0
Follow g h bs = (t depth : ℕ) → IsValid g t depth → read h t names ≡ bound bs (read g t names)

nodes-bound : (g h : Graph) (bs : List Binding) → Follow g h bs → (d : ℕ) (ts : List TermId) → AllValidAt g ts d → all_read h ts ≡ map (bound bs) (all_read g ts)
nodes-bound g h bs w d [] v = refl
nodes-bound g h bs w d (t ∷ ts) v = ap₂ (λ (x : Term) (xs : List Term). x ∷ xs) (w t.index d v.0) (nodes-bound g h bs w d ts v.1)

pub hyps-bound : BindingsReachAssumptions
hyps-bound g h bs [] w v = refl
hyps-bound g h bs (x ∷ xs) w v =
    let head = w x.head.index (x.depth + x.pis) v.0.head in
    let body = nodes-bound g h bs w (x.depth + x.pis) x.body v.0.body in
    let term = w x.term.index x.depth v.0.term in
    let same : assumption_in h x ≡ bound_assumption bs (assumption_in g x) = λ i. record { pred = x.pred.0; scope = x.depth; parameters = x.pis; head = head i; conditions = body i; assumed = term i } in
    ap₂ (λ (y : Assumption) (ys : List Assumption). y ∷ ys) same (hyps-bound g h bs xs w v.1)

-- a node that stays is valid as it was
valid-undone : (g : Graph) (m : HeapMark) (noted : List Change) (t d : ℕ) → CanUndo m g noted → t < m.nodes → IsValid g t d → IsValid (undone m g) t d
valid-undone g m noted t d c l v =
    let nodes = take-append-drop (length g.nodes - m.nodes) g.nodes in
    let depths = take-append-drop m.variables g.depths in
    let within = c.within.nodes in
    let below : t < length (drop (length g.nodes - m.nodes) g.nodes) = omega (arith, length-drop (length g.nodes - m.nodes) g.nodes) in
    let long : length (take m.variables g.depths) ≡ m.variables = length-take m.variables g.depths c.within.variables in
    sym (ap (λ (f : ℕ → Bool). f d) (valid-grown (take (length g.nodes - m.nodes) g.nodes) (undone m g).nodes (take m.variables g.depths) (drop m.variables g.depths) (subst (λ n. AllMade n (undone m g).nodes) (sym long) c.closed.nodes) t below))
    ∙ ap₂ (λ (ns : List Node) (ds : List ℕ). valid ns ds t d) nodes depths
    ∙ v
  where
    length-take : (n : ℕ) (xs : List ℕ) → n ≤ length xs → length (take n xs) ≡ n
    length-take n xs h = grind (arith, common_steps)

nodes-undone : (g : Graph) (m : HeapMark) (noted : List Change) (d : ℕ) (ts : List TermId) → CanUndo m g noted → AllNodesBelow m.nodes ts → AllValidAt g ts d → AllValidAt (undone m g) ts d
nodes-undone g m noted d [] c l v = tt
nodes-undone g m noted d (t ∷ ts) c l v = (valid-undone g m noted t.index d c l.0 v.0, nodes-undone g m noted d ts c l.1 v.1)

-- and as changeable as it was
all-fixed_undone : (g : Graph) (m : HeapMark) (noted : List Change) (ts : List TermId) → CanUndo m g noted → AllNodesBelow m.nodes ts → all_ground_normal (undone m g) ts ≡ all_ground_normal g ts
all-fixed_undone g m noted [] c l = refl
all-fixed_undone g m noted (t ∷ ts) c l = ap₂ (λ (a b : Bool). a && b) (ground_normal-undone m g t.index c.within l.0) (all-fixed_undone g m noted ts c l.1)

flag-undone : (g : Graph) (m : HeapMark) (noted : List Change) (x : Hyp) → CanUndo m g noted → IsHypBelow m.nodes x → all_ground_normal (undone m g) (nodes_of x) ≡ all_ground_normal g (nodes_of x)
flag-undone g m noted x c l =
    ap₂ (λ (a b : Bool). a && b) (ground_normal-undone m g x.head.index c.within l.head)
    (ap₂ (λ (a b : Bool). a && b) (ground_normal-undone m g x.term.index c.within l.term) (all-fixed_undone g m noted x.body c l.body))

pub hyps-undone : UndoKeepsHyps
hyps-undone g m noted [] c l v = tt
hyps-undone g m noted (x ∷ xs) c l v = (
  record {
    head = valid-undone g m noted x.head.index (x.depth + x.pis) c l.0.head v.0.head;
    body = nodes-undone g m noted (x.depth + x.pis) x.body c l.0.body v.0.body;
    term = valid-undone g m noted x.term.index x.depth c l.0.term v.0.term;
    flag = v.0.flag ∙ sym (flag-undone g m noted x c l.0);
  },
  hyps-undone g m noted xs c l.1 v.1,
)

-- what is valid is there
all-below : (g : Graph) (d : ℕ) (ts : List TermId) → AllValidAt g ts d → AllNodesBelow (length g.nodes) ts
all-below g d [] v = tt
all-below g d (t ∷ ts) v = (valid-below g t.index d v.0, all-below g d ts v.1)

pub hyps-below : ValidHypsAreBelow
hyps-below g [] v = tt
hyps-below g (x ∷ xs) v = (
  record {
    head = valid-below g x.head.index (x.depth + x.pis) v.0.head;
    body = all-below g (x.depth + x.pis) x.body v.0.body;
    term = valid-below g x.term.index x.depth v.0.term;
  },
  hyps-below g xs v.1,
)
