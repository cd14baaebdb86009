-- Nodes applied to the name of a level.
use Rattle.std.proofs.Common.{◌≡◌, ℕ, ◌+◌, ◌<◌, ◌++◌, List, [], ◌∷◌, length, true, Some, refl, ap₂, ◌∙◌, arith}
use Rattle.level_terms.specs.declared.node.Node.{Node}
use Rattle.level_terms.specs.declared.node.Node.TheVariants.{Level, App}
use Rattle.level_terms.specs.declared.node.TermId.{TermId}
use Rattle.level_terms.specs.Graph.{Graph, node_at}
use Rattle.level_terms.specs.Sound.{IsSound, AllOlder}
use Rattle.level_terms.specs.Growth.{Grows}
use Rattle.level_terms.specs.Reading.{read}
use Rattle.level_terms.specs.Reached.{IsUnreached}
use Rattle.level_terms.specs.Valid.{IsValid}
use Rattle.level_terms.proofs.FoldLemmas.{node_at-below}
use Rattle.level_terms.proofs.GrowthLemmas.{grows-node, grows-trans}
use Rattle.level_terms.proofs.ValidLemmas.{growth_keeps_readings, growth_keeps_valid, valid_deeper}
use Rattle.ref_terms.specs.terms.Apply.{apply}
use Rattle.beta_fragment.specs.Names.{names}
use Rattle.level_terms.specs.Values.{value_of, IsAppOf, IsLevelOf}
use Rattle.beta_fragment.proofs.EnterLemmas.{names-places}
use Rattle.level_terms.proofs.MakeLemmas.{and_both, newest, app-made, app-flattened, parts-there, older-append, older-grown, level-made}
use Rattle.beta_fragment.proofs.MoveLemmas.{node-after}
use Rattle.level_terms.proofs.ReadLemmas.{valid-below}
use Rattle.beta_fragment.proofs.UnreachedNodes.{unreached-grown, first-unreached, last-unreached}

-- what was there is there in a heap that grew
pub node-kept : (g h : Graph) → Grows g h [] [] → (t : ℕ) (n : Node) → node_at g.nodes t ≡ Some n → node_at h.nodes t ≡ Some n
node-kept g h w t n e = node-after g h w t (node_at-below g.nodes t n e) ∙ e

-- the newest node
pub node-made : (g h : Graph) (n : Node) (r : ℕ) → r ≡ length g.nodes → h ≡ record g { nodes = n ∷ g.nodes } → node_at h.nodes r ≡ Some n
node-made g h n r e made = ap₂ (λ (ns : List Node) (i : ℕ). node_at ns i) (λ i. (made i).nodes) e ∙ newest n g.nodes

-- a node of a heap, the name of a level in the next one, and the node's application to the name in the third
pub record IsApplied (old one new : Graph) (t name r : TermId) (depth : ℕ) : Type 0 where
  pub before : IsSound old
  pub grows : Grows old one [] []
  pub level : IsLevelOf depth (value_of one name)
  pub application : IsAppOf (value_of one t) (value_of one name ∷ []) (value_of new r)
  pub valid : IsValid old t.index depth

pub applied-reads : (old one new : Graph) (t name r : TermId) (depth : ℕ) → IsApplied old one new t name r depth → read new r.index names ≡ apply (read old t.index names) (names depth)
applied-reads old one new t name r depth w =
    w.application.term names names-places
    ∙ ap₂ apply (growth_keeps_readings old one t.index names w.before w.grows (valid-below old t.index depth w.valid)) (w.level.term names names-places)

pub applied-valid : (old one new : Graph) (t name r : TermId) (depth : ℕ) → IsApplied old one new t name r depth → IsValid new r.index (depth + 1)
applied-valid old one new t name r depth w =
    w.application.holds (depth + 1)
    (valid_deeper one t.index depth (depth + 1) (growth_keeps_valid old one [] [] t.index depth w.before w.grows (valid-below old t.index depth w.valid) w.valid) (omega arith))
    (and_both _ true (w.level.holds (depth + 1) (omega arith)) refl)

-- of the heaps in which the level and the application were made
pub record IsMadeWith (old one new : Graph) (name r head : TermId) (args : List TermId) (depth : ℕ) : Type 0 where
  pub sound : IsSound old
  pub sound_one : IsSound one
  pub sound_new : IsSound new
  pub name_at : name.index ≡ length old.nodes
  pub one_is : one ≡ record old { nodes = Level depth ∷ old.nodes }
  pub at : r.index ≡ length one.nodes
  pub new_is : new ≡ record one { nodes = App head args ∷ one.nodes }

pub name-older : (old one : Graph) (name : TermId) (depth : ℕ) → name.index ≡ length old.nodes → one ≡ record old { nodes = Level depth ∷ old.nodes } → name.index < length one.nodes
name-older old one name depth e made = node_at-below one.nodes name.index (Level depth) (node-made old one (Level depth) name.index e made)

pub name-kept : (old one new : Graph) (name r head : TermId) (args : List TermId) (depth : ℕ) → IsMadeWith old one new name r head args depth → node_at new.nodes name.index ≡ Some (Level depth)
name-kept old one new name r head args depth w =
    node-kept one new (grows-node one new (App head args) w.new_is) name.index (Level depth) (node-made old one (Level depth) name.index w.name_at w.one_is)

-- a term that is no application
pub first-applied : (old one new : Graph) (t name r : TermId) (depth : ℕ) → IsMadeWith old one new name r t (name ∷ []) depth → IsValid old t.index depth → t.index < length one.nodes → IsApplied old one new t name r depth
first-applied old one new t name r depth w valid there = record {
  before = w.sound;
  grows = grows-node old one (Level depth) w.one_is;
  level = level-made old one depth name w.sound_one w.name_at w.one_is;
  application = app-made one new t (name ∷ []) r w.sound_one w.sound_new w.at w.new_is there (name-older old one name depth w.name_at w.one_is, tt);
  valid = valid;
}

pub first-made_unreached : (old one new : Graph) (t name r : TermId) (depth : ℕ) → IsMadeWith old one new name r t (name ∷ []) depth → IsValid old t.index depth → (v : ℕ) → IsUnreached old v t.index → IsUnreached new v r.index
first-made_unreached old one new t name r depth w valid v e =
    first-unreached new t name r.index depth w.sound_new (node-made one new (App t (name ∷ [])) r.index w.at w.new_is) (name-kept old one new name r t (name ∷ []) depth w) v
    (unreached-grown old new w.sound (grows-trans old one new [] [] [] (grows-node old one (Level depth) w.one_is) (grows-node one new (App t (name ∷ [])) w.new_is)) t.index (valid-below old t.index depth valid) v e)

-- an application
pub args-older : (old one : Graph) (t name head : TermId) (args : List TermId) (depth : ℕ) → IsSound old → node_at old.nodes t.index ≡ Some (App head args) → name.index ≡ length old.nodes → one ≡ record old { nodes = Level depth ∷ old.nodes } → AllOlder (length one.nodes) (head ∷ (args ++ name ∷ []))
args-older old one t name head args depth s here e made =
    let parts = older-grown old one (grows-node old one (Level depth) made) (head ∷ args) (parts-there old t.index (App head args) s here) in
    (parts.0, older-append (length one.nodes) args (name ∷ []) parts.1 (name-older old one name depth e made, tt))

pub last-applied : (old one new : Graph) (t name r head : TermId) (args : List TermId) (depth : ℕ) → IsMadeWith old one new name r head (args ++ name ∷ []) depth → IsValid old t.index depth → node_at old.nodes t.index ≡ Some (App head args) → IsApplied old one new t name r depth
last-applied old one new t name r head args depth w valid here =
    let older = args-older old one t name head args depth w.sound here w.name_at w.one_is in
    record {
      before = w.sound;
      grows = grows-node old one (Level depth) w.one_is;
      level = level-made old one depth name w.sound_one w.name_at w.one_is;
      application = app-flattened one t head args (name ∷ []) (value_of new r) w.sound_one (node-kept old one (grows-node old one (Level depth) w.one_is) t.index (App head args) here)
          (app-made one new head (args ++ name ∷ []) r w.sound_one w.sound_new w.at w.new_is older.0 older.1);
      valid = valid;
    }

pub last-made_unreached : (old one new : Graph) (t name r head : TermId) (args : List TermId) (depth : ℕ) → IsMadeWith old one new name r head (args ++ name ∷ []) depth → IsValid old t.index depth → node_at old.nodes t.index ≡ Some (App head args) →
    (v : ℕ) → IsUnreached old v t.index → IsUnreached new v r.index
last-made_unreached old one new t name r head args depth w valid here v e =
    let grows = grows-trans old one new [] [] [] (grows-node old one (Level depth) w.one_is) (grows-node one new (App head (args ++ name ∷ [])) w.new_is) in
    last-unreached new t.index head args name r.index depth w.sound_new (node-kept old new grows t.index (App head args) here) (node-made one new (App head (args ++ name ∷ [])) r.index w.at w.new_is)
    (name-kept old one new name r head (args ++ name ∷ []) depth w) v
    (unreached-grown old new w.sound grows t.index (valid-below old t.index depth valid) v e)
