-- Nodes of the forms around a clause.
use Rattle.std.proofs.Common.{◌≡◌, ℕ, suc, ◌+◌, ◌<◌, ◌&&◌, List, [], ◌∷◌, map, length, Bool, true, false, cond, nat_eq, Some, refl, sym, ap, ap₂, ◌∙◌, arith, subst, ne_eqb, eq-eqb, lt-ltb}
use Rattle.std.specs.List.{list_all}
use Rattle.ref_terms.specs.terms.Term.{Term, At, Con, Bound}
use Rattle.ref_terms.specs.terms.Occurs.{has_name}
use Rattle.ref_terms.specs.unification.Spine.{apply_all}
use Rattle.ref_terms.specs.unification.Closing.{close}
use Rattle.ref_terms.specs.lemmas.NameLemmas.{close-apply}
use Rattle.ref_terms.specs.declared.sym.Sym.{Sym}
use Rattle.level_terms.specs.declared.node.Node.{Node}
use Rattle.level_terms.specs.declared.node.Node.TheVariants.{Con as ConNode, App as AppNode, Lam as LamNode}
use Rattle.level_terms.specs.declared.node.TermId.{TermId}
use Rattle.level_terms.specs.Graph.{Graph, node_at}
use Rattle.level_terms.specs.Growth.{Grows}
use Rattle.level_terms.specs.Reading.{read}
use Rattle.level_terms.specs.Sound.{IsSound, IsHead, AllOlder}
use Rattle.level_terms.specs.Valid.{IsValid, valid}
use Rattle.level_terms.proofs.GrowthLemmas.{grows-node, grows-trans}
use Rattle.level_terms.proofs.LocalLemmas.{readings_local}
use Rattle.level_terms.proofs.NodeLemmas.{nodes_read}
use Rattle.level_terms.proofs.ValidLemmas.{growth_keeps_readings, growth_keeps_valid, nodes_valid}
use Rattle.beta_fragment.specs.Names.{names}
use Rattle.beta_fragment.specs.Moves.{Lacks}
use Rattle.beta_fragment.specs.HeadForm.{all_read, AllValidAt}
use Rattle.beta_fragment.proofs.EnterLemmas.{names-places, body-entered}
use Rattle.beta_fragment.proofs.HeadLemmas.{valid-grown_all, read-grown_all}
use Rattle.beta_fragment.proofs.NamelessLemmas.{nameless-read}
use Rattle.level_terms.proofs.ReadLemmas.{read-built, valid-below}

-- the newest node
newest-node : (n : Node) (older : List Node) → node_at (n ∷ older) (length older) ≡ Some n
newest-node n older = ap (λ b. cond b (Some n) (node_at older (length older))) (eq-eqb (length older) (length older) refl)

pub made-there : (g h : Graph) (n : Node) (r : ℕ) → r ≡ length g.nodes → h ≡ record g { nodes = n ∷ g.nodes } → node_at h.nodes r ≡ Some n
made-there g h n r e made = ap₂ (λ (ns : List Node) (i : ℕ). node_at ns i) (λ i. (made i).nodes) e ∙ newest-node n g.nodes

pub made-below : (g h : Graph) (n : Node) (r : ℕ) → r ≡ length g.nodes → h ≡ record g { nodes = n ∷ g.nodes } → r < length h.nodes
made-below g h n r e made = let long : length h.nodes ≡ suc (length g.nodes) = ap (λ (x : Graph). length x.nodes) made in omega arith

pub constant-head : (g h : Graph) (c : Sym) (r : ℕ) → r ≡ length g.nodes → h ≡ record g { nodes = ConNode c ∷ g.nodes } → IsHead (node_at h.nodes r)
constant-head g h c r e made = subst IsHead (sym (made-there g h (ConNode c) r e made)) tt

pub args-older : (g h : Graph) (n : Node) (d : ℕ) (ts : List TermId) → h ≡ record g { nodes = n ∷ g.nodes } → AllValidAt g ts d → AllOlder (length h.nodes) ts
args-older g h n d [] made w = tt
args-older g h n d (t ∷ ts) made w =
    (let long : length h.nodes ≡ suc (length g.nodes) = ap (λ (x : Graph). length x.nodes) made in let below = valid-below g t.index d w.0 in omega arith, args-older g h n d ts made w.1)

both_hold : (a b : Bool) → a ≡ true → b ≡ true → (a && b) ≡ true
both_hold true b p q = q
both_hold false b p q = p

list-valid : (g : Graph) (d : ℕ) (ts : List TermId) → AllValidAt g ts d → list_all (λ (f : ℕ → Bool). f d) (map (λ (t : TermId). valid g.nodes g.depths t.index) ts) ≡ true
list-valid g d [] w = refl
list-valid g d (t ∷ ts) w = both_hold _ _ w.0 (list-valid g d ts w.1)

-- a constant
pub constant-reads : (g h : Graph) (c : Sym) (r : ℕ) → IsSound h → r ≡ length g.nodes → h ≡ record g { nodes = ConNode c ∷ g.nodes } → read h r names ≡ At (Con c.0)
constant-reads g h c r s e made = nodes_read h r (ConNode c) names s names-places (made-there g h (ConNode c) r e made)

pub constant-valid : (g h : Graph) (c : Sym) (r depth : ℕ) → IsSound h → r ≡ length g.nodes → h ≡ record g { nodes = ConNode c ∷ g.nodes } → IsValid h r depth
constant-valid g h c r depth s e made = nodes_valid h r (ConNode c) depth s (made-there g h (ConNode c) r e made)

-- a constant, and its application
pub record IsConstantApplied (old one new : Graph) (c : Sym) (head r : TermId) (args : List TermId) (depth : ℕ) : Type 0 where
  pub sound : IsSound old
  pub sound_one : IsSound one
  pub sound_new : IsSound new
  pub head_at : head.index ≡ length old.nodes
  pub one_is : one ≡ record old { nodes = ConNode c ∷ old.nodes }
  pub at : r.index ≡ length one.nodes
  pub new_is : new ≡ record one { nodes = AppNode head args ∷ one.nodes }
  pub args_valid : AllValidAt old args depth

module _ (old one new : Graph) (c : Sym) (head r : TermId) (args : List TermId) (depth : ℕ) (w : IsConstantApplied old one new c head r args depth) where
  grows_one : Grows old one [] []
  grows_one = grows-node old one (ConNode c) w.one_is

  grows_more : Grows one new [] []
  grows_more = grows-node one new (AppNode head args) w.new_is

  grows_both : Grows old new [] []
  grows_both = grows-trans old one new [] [] [] grows_one grows_more

  there : node_at new.nodes r.index ≡ Some (AppNode head args)
  there = made-there one new (AppNode head args) r.index w.at w.new_is

  head-reads : read new head.index names ≡ At (Con c.0)
  head-reads =
      growth_keeps_readings one new head.index names w.sound_one grows_more (made-below old one (ConNode c) head.index w.head_at w.one_is)
      ∙ nodes_read one head.index (ConNode c) names w.sound_one names-places (made-there old one (ConNode c) head.index w.head_at w.one_is)

  reads-applied : read new r.index names ≡ apply_all (At (Con c.0)) (all_read old args)
  reads-applied =
      nodes_read new r.index (AppNode head args) names w.sound_new names-places there
      ∙ ap₂ apply_all head-reads (read-grown_all old new depth w.sound grows_both args w.args_valid)

  head-valid : IsValid new head.index depth
  head-valid =
      growth_keeps_valid one new [] [] head.index depth w.sound_one grows_more (made-below old one (ConNode c) head.index w.head_at w.one_is)
      (nodes_valid one head.index (ConNode c) depth w.sound_one (made-there old one (ConNode c) head.index w.head_at w.one_is))

  valid-applied : IsValid new r.index depth
  valid-applied =
      nodes_valid new r.index (AppNode head args) depth w.sound_new there
      ∙ both_hold _ _ head-valid (list-valid new depth args (valid-grown_all old new depth w.sound grows_both args w.args_valid))

pub applied-reads : (old one new : Graph) (c : Sym) (head r : TermId) (args : List TermId) (depth : ℕ) → IsConstantApplied old one new c head r args depth → read new r.index names ≡ apply_all (At (Con c.0)) (all_read old args)
applied-reads old one new c head r args depth w = reads-applied old one new c head r args depth w

pub applied-valid : (old one new : Graph) (c : Sym) (head r : TermId) (args : List TermId) (depth : ℕ) → IsConstantApplied old one new c head r args depth → IsValid new r.index depth
applied-valid old one new c head r args depth w = valid-applied old one new c head r args depth w

-- the levels with no name at one of them
abbrev without : ℕ → ℕ → Term
without d i = cond (nat_eq d i) (At (Bound 0)) (names i)

without-lacks : (d : ℕ) → Lacks d (without d)
without-lacks d i = go (nat_eq d i) refl
  where
    go : (b : Bool) → nat_eq d i ≡ b → has_name d (cond b (At (Bound 0)) (names i)) ≡ false
    go true e = refl
    go false e = e

without-below : (d i : ℕ) → i < d → names i ≡ without d i
without-below d i h = sym (ap (λ b. cond b (At (Bound 0)) (names i)) (ne_eqb d i (omega arith)))

-- a node that is valid at a level doesn't have the level's name
read-lacks : (g : Graph) (t d : ℕ) → IsValid g t d → has_name d (read g t names) ≡ false
read-lacks g t d w = ap (has_name d) (readings_local g t d names (without d) w (without-below d)) ∙ nameless-read d g t (without d) (without-lacks d)

-- an abstraction over the name of a level
pub abstracted-valid : (g h : Graph) (level : ℕ) (body r : TermId) → IsSound g → IsSound h → IsValid g body.index (level + 1) → r.index ≡ length g.nodes → h ≡ record g { nodes = LamNode level body ∷ g.nodes } → IsValid h r.index level
abstracted-valid g h level body r s s' v e made =
    let grown = growth_keeps_valid g h [] [] body.index (level + 1) s (grows-node g h (LamNode level body) made) (valid-below g body.index (level + 1) v) v in
    nodes_valid h r.index (LamNode level body) level s' (made-there g h (LamNode level body) r.index e made)
    ∙ both_hold _ _ (lt-ltb level (suc level) (omega arith)) (subst (IsValid h body.index) (let q : level + 1 ≡ suc level = omega arith in q) grown)

pub abstracted-reads : (g h : Graph) (level : ℕ) (body r : TermId) → IsSound g → IsSound h → IsValid g body.index (level + 1) → r.index ≡ length g.nodes → h ≡ record g { nodes = LamNode level body ∷ g.nodes } → read h r.index names ≡ close level (read g body.index names)
abstracted-reads g h level body r s s' v e made =
    let here = made-there g h (LamNode level body) r.index e made in
    let lacks = read-lacks h r.index level (abstracted-valid g h level body r s s' v e made) in
    sym (ap (close level) (sym (growth_keeps_readings g h body.index names s (grows-node g h (LamNode level body) made) (valid-below g body.index (level + 1) v)) ∙ body-entered h s' r.index level body here)
    ∙ close-apply level (read h r.index names) (read-built h r.index names) lacks)
