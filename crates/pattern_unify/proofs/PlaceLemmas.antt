-- Validity of a node by its parts, place after place.
use Rattle.std.proofs.Common.{◌≡◌, ℕ, zero, suc, ◌<◌, ◌≤◌, ◌+◌, ◌-◌, ◌&&◌, nat_lt, List, [], ◌∷◌, ◌++◌, length, map, Bool, true, false, Option, Some, None, SomeIff, IfSome, refl, sym, ap, ◌∙◌, subst, arith}
use Rattle.std.specs.List.{list_all}
use Rattle.std.proofs.lemmas.List.Folds.{list_all-append}
use Rattle.level_terms.specs.declared.node.Node.{Node}
use Rattle.level_terms.specs.declared.node.Node.TheVariants.{Con, Int, Str, Level, Lam, App, Var}
use Rattle.level_terms.specs.declared.node.TermId.{TermId}
use Rattle.level_terms.specs.Graph.{Graph, node_at}
use Rattle.level_terms.specs.Layer.{layer_of}
use Rattle.level_terms.specs.Reached.{tree, tree_size}
use Rattle.level_terms.specs.Sound.{IsSound, AllOlder}
use Rattle.level_terms.specs.Valid.{valid, layer_valid}
use Rattle.level_terms.proofs.FoldLemmas.{parts_of, parts_older, node_at-below, names_older}
use Rattle.level_terms.proofs.ValidLemmas.{nodes_valid}
use Rattle.beta_fragment.proofs.WorkLemmas.{size-some, total, app-size, lam-size}
use Rattle.pattern_unify.specs.declared.validity.Place.{Place}
use Rattle.pattern_unify.specs.Places.{scope_of, own_valid, place_at, places_of, valid_there, AllPlaces, places_size}

and-true : (b : Bool) → (b && true) ≡ b
and-true true = refl
and-true false = refl

and-false : (b : Bool) → (b && false) ≡ false
and-false true = refl
and-false false = refl

-- arguments are valid at a depth as their places are
args-valid : (g : Graph) (innermost : Option ℕ) (ts : List TermId) → list_all (λ f. f (scope_of innermost)) (map (λ t. valid g.nodes g.depths t.index) ts) ≡ list_all (valid_there g) (map (place_at innermost) ts)
args-valid g innermost [] = refl
args-valid g innermost (t ∷ ts) = ap (λ b. valid g.nodes g.depths t.index (scope_of innermost) && b) (args-valid g innermost ts)

-- a node is valid by what stands there and by its parts
node-valid : (g : Graph) (innermost : Option ℕ) (n : Node) → layer_valid g.depths (layer_of (valid g.nodes g.depths) n) (scope_of innermost) ≡ (own_valid g.depths n (scope_of innermost) && list_all (valid_there g) (places_of n innermost))
node-valid g i (Con c) = refl
node-valid g i (Int n) = refl
node-valid g i (Str s) = refl
node-valid g i (Level l) = sym (and-true _)
node-valid g i (Lam d b) = ap (λ r. nat_lt d (suc (scope_of i)) && r) (sym (and-true _))
node-valid g i (App h ts) = ap (λ r. valid g.nodes g.depths h.index (scope_of i) && r) (args-valid g i ts)
node-valid g i (Var v) = sym (and-true _)

args-size : (g : Graph) (innermost : Option ℕ) (ts : List TermId) → places_size g (map (place_at innermost) ts) ≡ total g ts
args-size g i [] = refl
args-size g i (t ∷ ts) = ap (λ k. tree_size (tree g t.index) + k) (args-size g i ts)

size-append : (g : Graph) (ps qs : List Place) → places_size g (ps ++ qs) ≡ places_size g ps + places_size g qs
size-append g [] qs = omega arith
size-append g (p ∷ ps) qs = let h = size-append g ps qs in omega (arith, h)

-- the parts are smaller than the node
parts-smaller : (g : Graph) (t : ℕ) (innermost : Option ℕ) (n : Node) → IsSound g → node_at g.nodes t ≡ Some n → places_size g (places_of n innermost) < tree_size (tree g t)
parts-smaller g t i (Lam d b) s e = let h = lam-size g t d b s e in omega (arith, h)
parts-smaller g t i (App k ts) s e = let h = app-size g t k ts s e in let z = args-size g i ts in omega (arith, h, z)
parts-smaller g t i (Con c) s e = let h = size-some (tree g t) in omega (arith, h)
parts-smaller g t i (Int c) s e = let h = size-some (tree g t) in omega (arith, h)
parts-smaller g t i (Str c) s e = let h = size-some (tree g t) in omega (arith, h)
parts-smaller g t i (Level c) s e = let h = size-some (tree g t) in omega (arith, h)
parts-smaller g t i (Var c) s e = let h = size-some (tree g t) in omega (arith, h)

there-append : (m : ℕ) (ps qs : List Place) → AllPlaces m ps → AllPlaces m qs → AllPlaces m (ps ++ qs)
there-append m [] qs v w = w
there-append m (p ∷ ps) qs v w = (v.0, there-append m ps qs v.1 w)

there-front : (m : ℕ) (ps qs : List Place) → AllPlaces m (ps ++ qs) → AllPlaces m ps
there-front m [] qs w = tt
there-front m (p ∷ ps) qs w = (w.0, there-front m ps qs w.1)

there-last : (m : ℕ) (ps : List Place) (p : Place) → AllPlaces m (ps ++ p ∷ []) → p.node.index < m
there-last m [] p w = w.0
there-last m (q ∷ ps) p w = there-last m ps p w.1

args-there : (m t : ℕ) (innermost : Option ℕ) → t < m → (ts : List TermId) → AllOlder t ts → AllPlaces m (map (place_at innermost) ts)
args-there m t i h [] w = tt
args-there m t i h (x ∷ ts) w = (let k : x.index < t = w.0 in omega (arith, h, k), args-there m t i h ts w.1)

parts-there : (m t : ℕ) (innermost : Option ℕ) → t < m → (n : Node) → AllOlder t (parts_of n) → AllPlaces m (places_of n innermost)
parts-there m t i h (Lam d b) w = (let k : b.index < t = w.0 in omega (arith, h, k), tt)
parts-there m t i h (App k ts) w = args-there m t i h (k ∷ ts) w
parts-there m t i h (Con c) w = tt
parts-there m t i h (Int c) w = tt
parts-there m t i h (Str c) w = tt
parts-there m t i h (Level c) w = tt
parts-there m t i h (Var c) w = tt

-- the innermost of so many levels
pub scope-before : (depth : ℕ) (o : Option ℕ) → SomeIff o (1 ≤ depth) (depth - 1) → scope_of o ≡ depth
scope-before zero None h = refl
scope-before (suc d) None h = absurd (h (omega arith))
scope-before d (Some l) h = let some = h.0 in let same = h.1 in omega (arith, some, same)

-- the first place
pub first-valid : (g : Graph) (t : TermId) (depth : ℕ) (innermost : Option ℕ) → scope_of innermost ≡ depth → list_all (valid_there g) (place_at innermost t ∷ []) ≡ valid g.nodes g.depths t.index depth
first-valid g t depth i e = and-true (valid_there g (place_at i t)) ∙ ap (valid g.nodes g.depths t.index) e

-- the place that is taken from the work has a node
pub taken-there : (m : ℕ) (work rest : List Place) (p : Place) → work ≡ rest ++ p ∷ [] → AllPlaces m work → p.node.index < m
taken-there m work rest p q w = there-last m rest p (subst (AllPlaces m) q w)

-- one turn, at a place with this node
module _ (g : Graph) (sound : IsSound g) (work rest : List Place) (p : Place) (taken : work ≡ rest ++ p ∷ []) (n : Node) (here : node_at g.nodes p.node.index ≡ Some n) where
  -- what stands at the node, from what the test says of it
  pub own-of : (b : Bool) → IfSome (node_at g.nodes p.node.index) (λ m. b ≡ own_valid g.depths m (scope_of p.innermost)) → b ≡ own_valid g.depths n (scope_of p.innermost)
  own-of b h = subst (λ o. IfSome o (λ m. b ≡ own_valid g.depths m (scope_of p.innermost))) here h

  place-valid : valid_there g p ≡ (own_valid g.depths n (scope_of p.innermost) && list_all (valid_there g) (places_of n p.innermost))
  place-valid = nodes_valid g p.node.index n (scope_of p.innermost) sound here ∙ node-valid g p.innermost n

  before : list_all (valid_there g) work ≡ (list_all (valid_there g) rest && (own_valid g.depths n (scope_of p.innermost) && list_all (valid_there g) (places_of n p.innermost)))
  before = ap (list_all (valid_there g)) taken ∙ list_all-append (valid_there g) rest (p ∷ []) ∙ ap (λ b. list_all (valid_there g) rest && b) (and-true (valid_there g p) ∙ place-valid)

  -- the first place that isn't valid decides
  pub not-valid : false ≡ own_valid g.depths n (scope_of p.innermost) → false ≡ list_all (valid_there g) work
  not-valid fails = sym (before ∙ ap (λ b. list_all (valid_there g) rest && (b && list_all (valid_there g) (places_of n p.innermost))) (sym fails) ∙ and-false (list_all (valid_there g) rest))

  -- else its parts do in its place
  pub valid-after : (later : List Place) → later ≡ rest ++ places_of n p.innermost → true ≡ own_valid g.depths n (scope_of p.innermost) → list_all (valid_there g) later ≡ list_all (valid_there g) work
  valid-after later q holds =
      ap (list_all (valid_there g)) q ∙ list_all-append (valid_there g) rest (places_of n p.innermost)
      ∙ sym (before ∙ ap (λ b. list_all (valid_there g) rest && (b && list_all (valid_there g) (places_of n p.innermost))) (sym holds))

  pub there-after : (later : List Place) → later ≡ rest ++ places_of n p.innermost → AllPlaces (length g.nodes) work → AllPlaces (length g.nodes) later
  there-after later q w =
      subst (AllPlaces (length g.nodes)) (sym q)
      (there-append (length g.nodes) rest (places_of n p.innermost) (there-front (length g.nodes) rest (p ∷ []) (subst (AllPlaces (length g.nodes)) taken w))
      (parts-there (length g.nodes) p.node.index p.innermost (node_at-below g.nodes p.node.index n here) n (parts_older g.nodes p.node.index n (names_older (length g.depths) g.nodes sound.made) here)))

  pub work-falls : (later : List Place) → later ≡ rest ++ places_of n p.innermost → places_size g later < places_size g work
  work-falls later q =
      let a = ap (places_size g) q ∙ size-append g rest (places_of n p.innermost) in
      let b = ap (places_size g) taken ∙ size-append g rest (p ∷ []) in
      let s = parts-smaller g p.node.index p.innermost n sound here in
      omega (arith, a, b, s)
