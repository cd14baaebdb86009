-- What a call leaves as it was.
use Rattle.std.proofs.Common.{◌≡◌, List, [], ◌++◌, length, drop, refl, sym, ap, ◌∙◌, subst, append_assoc}
use Rattle.hyp_clause.specs.declared.hyp.Hyp.{Hyp}
use Rattle.level_terms.specs.declared.node.Change.{Change}
use Rattle.level_terms.specs.Graph.{Graph}
use Rattle.level_terms.specs.Growth.{Grows}
use Rattle.level_terms.specs.Sound.{IsSound}
use Rattle.suspend.specs.Store.{Event, IsLater, SameStore}
use Rattle.suspend.specs.Keyed.{Keyed, Follows}
use Rattle.suspend.proofs.CallerLemmas.{after-making, growth-gains}
use Rattle.search_moves.specs.World.{World}
use Rattle.search_moves.specs.Moves.{LeavesRest}

pub later-refl : {X : Type 0} (log : List (Event X)) → IsLater log log
later-refl log = record { more = []; is = refl }

pub later-trans : {X : Type 0} (a b c : List (Event X)) → IsLater a b → IsLater b c → IsLater a c
later-trans a b c v w = record { more = w.more ++ v.more; is = w.is ∙ ap (λ xs. w.more ++ xs) v.is ∙ sym (append_assoc w.more v.more a) }

pub same-refl : {X : Type 0} (log : List (Event X)) → SameStore log log
same-refl log = record { constraints = refl; firings_are = refl; additions = refl }

pub same-trans : {X : Type 0} (a b c : List (Event X)) → SameStore a b → SameStore b c → SameStore a c
same-trans a b c v w = record { constraints = w.constraints ∙ v.constraints; firings_are = w.firings_are ∙ v.firings_are; additions = w.additions ∙ v.additions }

-- nothing was changed
pub leaves-refl : (w : World) → LeavesRest w w
leaves-refl w = record { frames = refl; path = refl; query = refl; base = refl; later = later-refl w.log; store = same-refl w.log; keyed = λ k. k }

-- two calls, one after the other
pub leaves-trans : (u v w : World) → LeavesRest u v → LeavesRest v w → LeavesRest u w
leaves-trans u v w a b = record {
  frames = b.frames ∙ a.frames;
  path = b.path ∙ a.path;
  query = b.query ∙ a.query;
  base = b.base ∙ a.base;
  later = later-trans u.log v.log w.log a.later b.later;
  store = same-trans u.log v.log w.log a.store b.store;
  keyed = λ k. b.keyed (a.keyed k);
}

-- a heap that grows, without assignments, leaves what the store knows
pub leaves-grown : (w : World) (h : Graph) → IsSound w.heap → Grows w.heap h [] [] → LeavesRest w (record w { heap = h })
leaves-grown w h sound grows = record {
  frames = refl;
  path = refl;
  query = refl;
  base = refl;
  later = later-refl w.log;
  store = same-refl w.log;
  keyed = λ k. after-making (List Hyp) w.heap h [] w.log sound grows k;
}

-- the store was told of all that the heap's trail gained
pub leaves-followed : (w : World) (h : Graph) (log : List (Event (List Hyp))) (s t entries : List Change) → IsSound w.heap → Grows w.heap h s t → entries ≡ drop (length s) t → Follows w.log log h entries
    → SameStore w.log log → IsLater w.log log → LeavesRest w (record w { heap = h; log = log })
leaves-followed w h log s t entries sound grows gained follows same later = record {
  frames = refl;
  path = refl;
  query = refl;
  base = refl;
  later = later;
  store = same;
  keyed = λ k. follows w.heap sound (subst (λ es. Grows w.heap h [] es) (sym gained) (growth-gains w.heap h s t grows)) k;
}

-- the store has looked at its keys
pub leaves-looked : (w : World) (h : Graph) (log : List (Event (List Hyp))) → SameStore w.log log → IsLater w.log log → Keyed log h → LeavesRest w (record w { heap = h; log = log })
leaves-looked w h log same later keyed = record { frames = refl; path = refl; query = refl; base = refl; later = later; store = same; keyed = λ k. keyed }
