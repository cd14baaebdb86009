-- Validity at a depth.
use Rattle.std.proofs.Common.{◌≡◌, ℕ, suc, ◌<◌, ◌≤◌, ◌&&◌, List, [], ◌∷◌, ◌++◌, map, length, cond, nat_eq, Bool, true, false, Option, Some, None, IfSome, option_map, slice_index, refl, sym, ap, ap₂, ◌∙◌, arith, ltb-true, lt-ltb}
use Rattle.std.specs.List.{list_all}
use Rattle.level_terms.specs.declared.node.Node.{Node}
use Rattle.level_terms.specs.declared.node.Node.TheVariants.{Con, Int, Str, Level, Lam, App, Var}
use Rattle.level_terms.specs.declared.node.TermId.{TermId}
use Rattle.level_terms.specs.declared.node.Change.{Change}
use Rattle.level_terms.specs.Graph.{Graph, Assigned, node_at, value_in}
use Rattle.level_terms.specs.Layer.{layer_of, over}
use Rattle.level_terms.specs.Reading.{read}
use Rattle.level_terms.specs.Valid.{layer_valid, valid, IsValid}
use Rattle.level_terms.specs.Sound.{IsSound}
use Rattle.level_terms.specs.Growth.{Grows, changes_of}
use Rattle.level_terms.proofs.FoldLemmas.{over-at, names_older}
use Rattle.level_terms.proofs.GrowthLemmas.{changes-length}
use Rattle.level_terms.proofs.SoundLemmas.{valid-grown}
use Rattle.level_terms.proofs.MakerLemmas.{makers_keep_readings}
use Rattle.level_terms.proofs.LocalLemmas.{and_left, and_right}
use Rattle.level_terms.proofs.NodeLemmas.{value-valid}
use Rattle.ref_terms.specs.terms.Term.{Term}

-- a heap after a call that notes nothing has the assignments that it had
none_assigned : (bs : List Assigned) → ◌≡◌ {A = List Change} [] ([] ++ changes_of bs) → bs ≡ []
none_assigned [] e = refl
none_assigned (b ∷ bs) e = absurd (let long = ap length e in omega (arith, long, changes-length (b ∷ bs)))

pub growth_keeps_readings : (g h : Graph) (t : ℕ) (env : ℕ → Term) → IsSound g → Grows g h [] [] → t < length g.nodes → read h t env ≡ read g t env
growth_keeps_readings g h t env s w l =
    let none = w.assigned ∙ ap (λ bs. bs ++ g.assigned) (none_assigned w.new_assigned w.trail) in
    let same : h ≡ record g { nodes = w.new_nodes ++ g.nodes; depths = g.depths ++ w.new_depths } = λ i. record { nodes = w.nodes i; depths = w.depths i; assigned = none i } in
    ap (λ x. read x t env) same ∙ makers_keep_readings g w.new_nodes w.new_depths t env s l

pub nodes_valid : (g : Graph) (t : ℕ) (n : Node) (depth : ℕ) → IsSound g → node_at g.nodes t ≡ Some n → valid g.nodes g.depths t depth ≡ layer_valid g.depths (layer_of (valid g.nodes g.depths) n) depth
unfolding valid
nodes_valid g t n depth s e = ap (λ (f : ℕ → Bool). f depth) (over-at (layer_valid g.depths) (λ x. false) g.nodes t n (names_older (length g.depths) g.nodes s.made) e)

-- a test that holds deeper too
abbrev Deepens : (ℕ → Bool) → Type 0
Deepens f = (d e : ℕ) → f d ≡ true → d ≤ e → f e ≡ true

and_both : (a b : Bool) → a ≡ true → b ≡ true → (a && b) ≡ true
and_both true b p q = q
and_both false b p q = p

parts-deepen : (v : ℕ → ℕ → Bool) → ((k : ℕ) → Deepens (v k)) → (ts : List TermId) (d e : ℕ) → d ≤ e → list_all (λ t. t d) (map (λ t. v t.index) ts) ≡ true → list_all (λ t. t e) (map (λ t. v t.index) ts) ≡ true
parts-deepen v w [] d e h q = refl
parts-deepen v w (t ∷ ts) d e h q = and_both _ _ (w t.index d e (and_left _ _ q) h) (parts-deepen v w ts d e h (and_right _ _ q))

node-deepens : (depths : List ℕ) (v : ℕ → ℕ → Bool) → ((k : ℕ) → Deepens (v k)) → (n : Node) → Deepens (layer_valid depths (layer_of v n))
node-deepens depths v w (Con c) d e q h = refl
node-deepens depths v w (Int c) d e q h = refl
node-deepens depths v w (Str c) d e q h = refl
node-deepens depths v w (Level l) d e q h = let k = ltb-true l d q in lt-ltb l e (omega (arith, k, h))
node-deepens depths v w (Lam k b) d e q h = let z = ltb-true k (suc d) (and_left _ _ q) in and_both _ _ (lt-ltb k (suc e) (omega (arith, z, h))) (and_right _ _ q)
node-deepens depths v w (App t ts) d e q h = and_both _ _ (w t.index d e (and_left _ _ q) h) (parts-deepen v w ts d e h (and_right _ _ q))
node-deepens depths v w (Var x) d e q h = let z = ltb-true (slice_index depths x.index) (suc d) q in lt-ltb (slice_index depths x.index) (suc e) (omega (arith, z, h))

valid-deepens : (nodes : List Node) (depths : List ℕ) (t : ℕ) → Deepens (valid nodes depths t)
unfolding valid
valid-deepens [] depths t = λ d e q h. q
valid-deepens (n ∷ older) depths t = go (nat_eq (length older) t) (λ k. valid-deepens older depths k)
  where
    go : (b : Bool) → ((k : ℕ) → Deepens (over (layer_valid depths) (λ depth. false) older k)) → Deepens (cond b (layer_valid depths (layer_of (over (layer_valid depths) (λ depth. false) older) n)) (over (layer_valid depths) (λ depth. false) older t))
    go true before = node-deepens depths (over (layer_valid depths) (λ depth. false) older) before n
    go false before = before t

pub valid_deeper : (g : Graph) (t depth deeper : ℕ) → IsValid g t depth → depth ≤ deeper → IsValid g t deeper
valid_deeper g t depth deeper v h = valid-deepens g.nodes g.depths t depth deeper v h

pub growth_keeps_valid : (g h : Graph) (r s : List Change) (t depth : ℕ) → IsSound g → Grows g h r s → t < length g.nodes → IsValid g t depth → IsValid h t depth
growth_keeps_valid g h r s t depth sound w l v =
    ap₂ (λ (ns : List Node) (ds : List ℕ). valid ns ds t depth) w.nodes w.depths
    ∙ ap (λ (f : ℕ → Bool). f depth) (valid-grown w.new_nodes g.nodes g.depths w.new_depths sound.made t l)
    ∙ v

-- the value of a variable is valid at its depth
pub some_valid : (g : Graph) → IsSound g → (o : Option TermId) (v : ℕ) → option_map (λ t. t.index) o ≡ value_in g.assigned v → IfSome o (λ t. IsValid g t.index (slice_index g.depths v))
some_valid g s None v e = tt
some_valid g s (Some t) v e = value-valid g.nodes g.depths g.assigned s.valid v t.index (sym e)
