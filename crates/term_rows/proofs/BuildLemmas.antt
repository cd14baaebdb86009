-- Nodes that were made just now, and lists of valid nodes.
use Rattle.std.proofs.Common.{◌≡◌, ℕ, ℤ, suc, ◌+◌, ◌≤◌, ◌++◌, List, [], ◌∷◌, length, map, get_or, true, Some, refl, sym, ap, ap₂, ◌∙◌, arith, subst}
use Rattle.std.specs.Prelude.{slice_index}
use Rattle.std.specs.List.{list_all, All}
use Rattle.std.proofs.lemmas.List.{nil_from_length}
use Rattle.std.proofs.lemmas.List.Elements.{All-head, All-tail}
use Rattle.ref_terms.specs.declared.sym.Sym.{Sym}
use Rattle.level_terms.specs.declared.node.Node.{Node}
use Rattle.level_terms.specs.declared.node.Node.TheVariants.{Con, Int, Level, Lam, App, Var}
use Rattle.level_terms.specs.declared.node.TermId.{TermId}
use Rattle.level_terms.specs.declared.node.VarId.{VarId}
use Rattle.level_terms.specs.Graph.{Graph, node_at}
use Rattle.level_terms.specs.Growth.{Grows}
use Rattle.level_terms.specs.Layer.{layer_of}
use Rattle.level_terms.specs.Reached.{IsUnreached, tree, trees_of}
use Rattle.level_terms.specs.Sound.{IsSound, AllOlder}
use Rattle.level_terms.specs.Valid.{valid, layer_valid, IsValid}
use Rattle.level_terms.proofs.GrowthLemmas.{changes-length}
use Rattle.level_terms.proofs.ValidLemmas.{nodes_valid, valid_deeper, growth_keeps_valid}
use Rattle.beta_fragment.specs.HeadForm.{AllValidAt}
use Rattle.level_terms.specs.Values.{Value, value_of}
use Rattle.level_terms.proofs.MakeLemmas.{newest, and_both, app-made, lam-made, below_true}
use Rattle.level_terms.proofs.ReadLemmas.{valid-below}

-- where no variable had a value, none has one after a call that notes nothing
pub stays-unassigned : (g h : Graph) → Grows g h [] [] → g.assigned ≡ [] → h.assigned ≡ []
stays-unassigned g h w e =
    let long = ap length w.trail in
    let none : w.new_assigned ≡ [] = nil_from_length w.new_assigned (omega (arith, long, changes-length w.new_assigned)) in
    w.assigned ∙ ap (λ bs. bs ++ g.assigned) none ∙ e

-- what was valid stays so
pub items-kept : {X : Type 0} (index least : X → ℕ) (g h : Graph) → IsSound g → Grows g h [] [] → (xs : List X) → All (λ x. IsValid g (index x) (least x)) xs → All (λ x. IsValid h (index x) (least x)) xs
items-kept index least g h s w xs all = λ k d lt. growth_keeps_valid g h [] [] (index (get_or xs k d)) (least (get_or xs k d)) s w (valid-below g (index (get_or xs k d)) (least (get_or xs k d)) (all k d lt)) (all k d lt)

-- the newest node is valid by its parts
pub newest-valid : (g h : Graph) (t : ℕ) (n : Node) (d : ℕ) → IsSound h → t ≡ length g.nodes → h ≡ record g { nodes = n ∷ g.nodes } → layer_valid h.depths (layer_of (valid h.nodes h.depths) n) d ≡ true → IsValid h t d
newest-valid g h t n d s e made w =
    let at : node_at h.nodes t ≡ Some n = ap₂ (λ (ns : List Node) (i : ℕ). node_at ns i) (λ i. (made i).nodes) e ∙ newest n g.nodes in
    nodes_valid h t n d s at ∙ w

pub int-valid : (g h : Graph) (t : ℕ) (n : ℤ) (d : ℕ) → IsSound h → t ≡ length g.nodes → h ≡ record g { nodes = Int n ∷ g.nodes } → IsValid h t d
int-valid g h t n d s e made = newest-valid g h t (Int n) d s e made refl

pub level-valid : (g h : Graph) (t l : ℕ) → IsSound h → t ≡ length g.nodes → h ≡ record g { nodes = Level l ∷ g.nodes } → IsValid h t (l + 1)
level-valid g h t l s e made = newest-valid g h t (Level l) (l + 1) s e made (below_true l (l + 1) (omega arith))

pub var-valid : (g h : Graph) (t : ℕ) (v : VarId) (d : ℕ) → IsSound h → t ≡ length g.nodes → h ≡ record g { nodes = Var v ∷ g.nodes } → d ≡ slice_index h.depths v.index → IsValid h t d
var-valid g h t v d s e made is = newest-valid g h t (Var v) d s e made (below_true (slice_index h.depths v.index) (suc d) (omega (arith, is)))

-- nodes that are valid further out are valid at a depth
pub all-valid : {X : Type 0} (node : X → TermId) (least : X → ℕ) (g : Graph) (d : ℕ) (xs : List X) → All (λ x. IsValid g (node x).index (least x)) xs → All (λ x. least x ≤ d) xs → AllValidAt g (map node xs) d
all-valid node least g d [] v b = tt
all-valid node least g d (x ∷ xs) v b = (
  valid_deeper g (node x).index (least x) d (All-head (λ y. IsValid g (node y).index (least y)) x xs v) (All-head (λ y. least y ≤ d) x xs b),
  all-valid node least g d xs (All-tail (λ y. IsValid g (node y).index (least y)) x xs v) (All-tail (λ y. least y ≤ d) x xs b),
)

-- they are there
pub all-older : (g : Graph) (d : ℕ) (ts : List TermId) → AllValidAt g ts d → AllOlder (length g.nodes) ts
all-older g d [] v = tt
all-older g d (t ∷ ts) v = (valid-below g t.index d v.0, all-older g d ts v.1)

-- and hold at the depth
all-hold : (g : Graph) (d : ℕ) (ts : List TermId) → AllValidAt g ts d → list_all (λ (y : Value). y.holds d) (map (value_of g) ts) ≡ true
all-hold g d [] v = refl
all-hold g d (t ∷ ts) v = and_both (valid g.nodes g.depths t.index d) (list_all (λ (y : Value). y.holds d) (map (value_of g) ts)) v.0 (all-hold g d ts v.1)

-- a new application is valid where its parts are
pub applied-valid : (g h : Graph) (k : TermId) (ts : List TermId) (r : TermId) (d : ℕ) → IsSound g → IsSound h → r.index ≡ length g.nodes → h ≡ record g { nodes = App k ts ∷ g.nodes } → IsValid g k.index d → AllValidAt g ts d → IsValid h r.index d
applied-valid g h k ts r d s s' e made v w =
    (app-made g h k ts r s s' e made (valid-below g k.index d v) (all-older g d ts w)).holds d v (all-hold g d ts w)

-- a new abstraction is valid where it was made
pub abstracted-valid : (g h : Graph) (d least : ℕ) (b r : TermId) → IsSound g → IsSound h → r.index ≡ length g.nodes → h ≡ record g { nodes = Lam d b ∷ g.nodes } → IsValid g b.index least → least ≤ d + 1 → IsValid h r.index d
abstracted-valid g h d least b r s s' e made v q =
    (lam-made g h d b r s s' e made (valid-below g b.index least v)).holds (valid_deeper g b.index least (d + 1) v q) d (omega arith)

-- a heap of a variable, of `x\ f x x`, and of the variable applied to a name
abbrev pub example : Sym → Graph
example f = record {
  nodes = App (record { index = 4 }) (record { index = 1 } ∷ []) ∷ Var (record { index = 0 }) ∷ Lam 0 (record { index = 2 })
      ∷ App (record { index = 0 }) (record { index = 1 } ∷ record { index = 1 } ∷ []) ∷ Level 0 ∷ Con f ∷ [];
  depths = 0 ∷ [];
  assigned = [];
}

example-valid : (f : Sym) → IsValid (example f) 5 1
unfolding valid
example-valid f = refl

value-valid : (f : Sym) → IsValid (example f) 3 0
unfolding valid
value-valid f = refl

value-unreached : (f : Sym) → IsUnreached (example f) 0 3
unfolding tree trees_of
value-unreached f = refl

-- a heap of these nodes is that heap
example-is : (f : Sym) (h : Graph) (v : VarId) (head x body lam y : TermId) → v.index ≡ 0 → head.index ≡ 0 → x.index ≡ 1 → body.index ≡ 2 → y.index ≡ 4
    → h ≡ record { nodes = App y (x ∷ []) ∷ Var v ∷ Lam 0 body ∷ App head (x ∷ x ∷ []) ∷ Level 0 ∷ Con f ∷ []; depths = 0 ∷ []; assigned = [] } → h ≡ example f
example-is f h v head x body lam y ev eh ex eb ey is = is ∙ (λ i. record {
  nodes = App (record { index = ey i }) (record { index = ex i } ∷ []) ∷ Var (record { index = ev i }) ∷ Lam 0 (record { index = eb i })
      ∷ App (record { index = eh i }) (record { index = ex i } ∷ record { index = ex i } ∷ []) ∷ Level 0 ∷ Con f ∷ [];
  depths = 0 ∷ [];
  assigned = [];
})

-- that heap, by the numbers of its variable, of the abstraction and of the newest node
pub record IsExample (f : Sym) (h : Graph) (v : VarId) (lam term : TermId) : Type 0 where
  pub is : h ≡ example f
  pub variable : v.index ≡ 0
  pub value : lam.index ≡ 3
  pub newest : term.index ≡ 5

-- it is made so
pub example-made : (f : Sym) (g0 g1 g2 g3 g4 g5 g6 g7 : Graph) (v : VarId) (head x body lam y term : TermId) (xs ys : List TermId)
    → g0 ≡ record { nodes = []; depths = []; assigned = [] }
    → v.index ≡ length g0.depths → g1 ≡ record g0 { depths = g0.depths ++ 0 ∷ [] }
    → head.index ≡ length g1.nodes → g2 ≡ record g1 { nodes = Con f ∷ g1.nodes }
    → x.index ≡ length g2.nodes → g3 ≡ record g2 { nodes = Level 0 ∷ g2.nodes }
    → xs ≡ x ∷ x ∷ []
    → body.index ≡ length g3.nodes → g4 ≡ record g3 { nodes = App head xs ∷ g3.nodes }
    → lam.index ≡ length g4.nodes → g5 ≡ record g4 { nodes = Lam 0 body ∷ g4.nodes }
    → y.index ≡ length g5.nodes → g6 ≡ record g5 { nodes = Var v ∷ g5.nodes }
    → ys ≡ x ∷ []
    → term.index ≡ length g6.nodes → g7 ≡ record g6 { nodes = App y ys ∷ g6.nodes }
    → IsExample f g7 v lam term
example-made f g0 g1 g2 g3 g4 g5 g6 g7 v head x body lam y term xs ys q0 iv m1 ih m2 ix m3 exs ib m4 il m5 iy m6 eys it m7 =
    let ev : v.index ≡ 0 = iv ∙ ap (λ (g : Graph). length g.depths) q0 in
    let q1 : g1 ≡ record { nodes = []; depths = 0 ∷ []; assigned = [] } = m1 ∙ ap (λ (g : Graph). record g { depths = g.depths ++ 0 ∷ [] }) q0 in
    let eh : head.index ≡ 0 = ih ∙ ap (λ (g : Graph). length g.nodes) q1 in
    let q2 : g2 ≡ record { nodes = Con f ∷ []; depths = 0 ∷ []; assigned = [] } = m2 ∙ ap (λ (g : Graph). record g { nodes = Con f ∷ g.nodes }) q1 in
    let ex : x.index ≡ 1 = ix ∙ ap (λ (g : Graph). length g.nodes) q2 in
    let q3 : g3 ≡ record { nodes = Level 0 ∷ Con f ∷ []; depths = 0 ∷ []; assigned = [] } = m3 ∙ ap (λ (g : Graph). record g { nodes = Level 0 ∷ g.nodes }) q2 in
    let eb : body.index ≡ 2 = ib ∙ ap (λ (g : Graph). length g.nodes) q3 in
    let q4 : g4 ≡ record { nodes = App head (x ∷ x ∷ []) ∷ Level 0 ∷ Con f ∷ []; depths = 0 ∷ []; assigned = [] } =
    m4 ∙ ap₂ (λ (g : Graph) (ts : List TermId). record g { nodes = App head ts ∷ g.nodes }) q3 exs in
    let el : lam.index ≡ 3 = il ∙ ap (λ (g : Graph). length g.nodes) q4 in
    let q5 : g5 ≡ record { nodes = Lam 0 body ∷ App head (x ∷ x ∷ []) ∷ Level 0 ∷ Con f ∷ []; depths = 0 ∷ []; assigned = [] } =
    m5 ∙ ap (λ (g : Graph). record g { nodes = Lam 0 body ∷ g.nodes }) q4 in
    let ey : y.index ≡ 4 = iy ∙ ap (λ (g : Graph). length g.nodes) q5 in
    let q6 : g6 ≡ record { nodes = Var v ∷ Lam 0 body ∷ App head (x ∷ x ∷ []) ∷ Level 0 ∷ Con f ∷ []; depths = 0 ∷ []; assigned = [] } =
    m6 ∙ ap (λ (g : Graph). record g { nodes = Var v ∷ g.nodes }) q5 in
    let et : term.index ≡ 5 = it ∙ ap (λ (g : Graph). length g.nodes) q6 in
    let q7 : g7 ≡ record { nodes = App y (x ∷ []) ∷ Var v ∷ Lam 0 body ∷ App head (x ∷ x ∷ []) ∷ Level 0 ∷ Con f ∷ []; depths = 0 ∷ []; assigned = [] } =
    m7 ∙ ap₂ (λ (g : Graph) (ts : List TermId). record g { nodes = App y ts ∷ g.nodes }) q6 eys in
    record { is = example-is f g7 v head x body lam y ev eh ex eb ey q7; variable = ev; value = el; newest = et }

-- what an assignment needs of it
pub example-value : (f : Sym) (h : Graph) (v : VarId) (lam term : TermId) → IsExample f h v lam term → IsValid h lam.index (slice_index h.depths v.index)
example-value f h v lam term e =
    subst (λ (g : Graph). IsValid g lam.index (slice_index g.depths v.index)) (sym e.is)
    (subst (λ (n : ℕ). IsValid (example f) n (slice_index (0 ∷ []) v.index)) (sym e.value)
    (subst (λ (m : ℕ). IsValid (example f) 3 (slice_index (0 ∷ []) m)) (sym e.variable) (value-valid f)))

pub example-unreached : (f : Sym) (h : Graph) (v : VarId) (lam term : TermId) → IsExample f h v lam term → IsUnreached h v.index lam.index
example-unreached f h v lam term e =
    subst (λ (g : Graph). IsUnreached g v.index lam.index) (sym e.is)
    (subst (λ (n : ℕ). IsUnreached (example f) v.index n) (sym e.value)
    (subst (λ (m : ℕ). IsUnreached (example f) m 3) (sym e.variable) (value-unreached f)))

-- and the newest node
pub example-newest : (f : Sym) (h : Graph) (v : VarId) (lam term : TermId) → IsExample f h v lam term → IsValid h term.index 1
example-newest f h v lam term e =
    subst (λ (g : Graph). IsValid g term.index 1) (sym e.is) (subst (λ (n : ℕ). IsValid (example f) n 1) (sym e.newest) (example-valid f))
