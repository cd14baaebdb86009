-- What a look tells of keys.
use Rattle.std.proofs.Common.{◌≡◌, ℕ, ◌<◌, Bool, true, false, List, [], ◌∷◌, ◌++◌, Option, Some, None, refl, sym, ap, ◌∙◌, subst, append_assoc, append-nil}
use Rattle.level_terms.specs.declared.node.Node.{Node}
use Rattle.level_terms.specs.declared.node.Node.TheVariants as node
use Rattle.level_terms.specs.declared.node.TermId.{TermId}
use Rattle.level_terms.specs.Graph.{Graph, node_at}
use Rattle.level_terms.specs.Reading.{read}
use Rattle.level_terms.specs.Sound.{IsSound, AllOlder}
use Rattle.level_terms.proofs.NodeLemmas.{nodes_read}
use Rattle.beta_fragment.specs.HeadForm.{all_read}
use Rattle.beta_fragment.specs.Names.{names}
use Rattle.beta_fragment.proofs.EnterLemmas.{names-places}
use Rattle.ref_terms.specs.terms.Term as term
use Rattle.ref_terms.specs.terms.Term.{Term, Head, At, App}
use Rattle.ref_terms.specs.unification.Spine.{args_of, head_of, apply_all}
use Rattle.clause_key.specs.declared.key.Key.{Key}
use Rattle.clause_key.specs.declared.key.Key.TheVariants.{Any}
use Rattle.clause_key.specs.Keys.{key_of, key_of_head, key_of_shape, key_argument, key_among, fits_every}
use Rattle.clause_key.specs.Seen.{node_key, IsSeen, IsSeenAmong}
use Rattle.clause_key.proofs.ArgumentLemmas.{key-read, argument-holds}
use Rattle.clause_key.proofs.FormLemmas.{firm-shape}

-- a head before arguments
app-spine : (xs : List Term) (f a : Term) → (head_of (apply_all (App f a) xs) ≡ head_of f) × (args_of (apply_all (App f a) xs) ≡ (args_of f ++ a ∷ []) ++ xs)
app-spine [] f a = (refl, sym (append-nil (args_of f ++ a ∷ [])))
app-spine (x ∷ xs) f a =
    let i = app-spine xs (App f a) x in
    (i.0, i.1 ∙ append_assoc (args_of f ++ a ∷ []) (x ∷ []) xs)

spine-head : (h : Head) (xs : List Term) → head_of (apply_all (At h) xs) ≡ Some h
spine-head h [] = refl
spine-head h (x ∷ xs) = (app-spine xs (At h) x).0

spine-args : (h : Head) (xs : List Term) → args_of (apply_all (At h) xs) ≡ xs
spine-args h [] = refl
spine-args h (x ∷ xs) = (app-spine xs (At h) x).1

-- the key of a term with this head
headed-key : (u : Term) (h : Head) → head_of u ≡ Some h → fits_every (key_of_head h) ≡ false → key_of u ≡ key_of_head h
headed-key u h e f = ap key_of_shape (firm-shape 0 u h e f).is

-- a node with a key of its own is the head of that key
pub record IsHeadNode (g : Graph) (t : ℕ) (key : Key) : Type 0 where
  pub head : Head
  pub reads : read g t names ≡ At head
  pub is : key_of_head head ≡ key

head-node : (g : Graph) (t : ℕ) (n : Node) → IsSound g → node_at g.nodes t ≡ Some n → fits_every (node_key n) ≡ false → IsHeadNode g t (node_key n)
head-node g t (node.Con c) s e f = record { head = term.Con c.0; reads = nodes_read g t (node.Con c) names s names-places e; is = refl }
head-node g t (node.Int c) s e f = record { head = term.Int c; reads = nodes_read g t (node.Int c) names s names-places e; is = refl }
head-node g t (node.Str c) s e f = record { head = term.Str c.0; reads = nodes_read g t (node.Str c) names s names-places e; is = refl }
head-node g t (node.Level l) s e f = record { head = term.Name l; reads = nodes_read g t (node.Level l) names s names-places e; is = refl }
head-node g t (node.Lam d b) s e f = absurd (let z : true ≡ false = f in cc)
head-node g t (node.App h ts) s e f = absurd (let z : true ≡ false = f in cc)
head-node g t (node.Var v) s e f = absurd (let z : true ≡ false = f in cc)

-- a node by itself
pub seen-node : (g : Graph) (t : ℕ) (n : Node) → IsSound g → node_at g.nodes t ≡ Some n → IsSeen (node_key n) (read g t names)
seen-node g t n s e f =
    let h = head-node g t n s e f in
    ap key_of h.reads ∙ headed-key (At h.head) h.head refl (ap fits_every h.is ∙ f) ∙ h.is

-- an application of a head
pub seen-app : (g : Graph) (t : ℕ) (k : TermId) (ts : List TermId) (n : Node) → IsSound g → node_at g.nodes t ≡ Some (node.App k ts) → node_at g.nodes k.index ≡ Some n → IsSeen (node_key n) (read g t names)
seen-app g t k ts n s e d f =
    let h = head-node g k.index n s d f in
    let is : read g t names ≡ apply_all (At h.head) (all_read g ts) = nodes_read g t (node.App k ts) names s names-places e ∙ ap (λ (z : Term). apply_all z (all_read g ts)) h.reads in
    ap key_of is ∙ headed-key (apply_all (At h.head) (all_read g ts)) h.head (spine-head h.head (all_read g ts)) (ap fits_every h.is ∙ f) ∙ h.is

-- its arguments
pub app-args : (g : Graph) (t : ℕ) (k : TermId) (ts : List TermId) (n : Node) → IsSound g → node_at g.nodes t ≡ Some (node.App k ts) → node_at g.nodes k.index ≡ Some n → fits_every (node_key n) ≡ false → args_of (read g t names) ≡ all_read g ts
app-args g t k ts n s e d f =
    let h = head-node g k.index n s d f in
    ap args_of (nodes_read g t (node.App k ts) names s names-places e ∙ ap (λ (z : Term). apply_all z (all_read g ts)) h.reads) ∙ spine-args h.head (all_read g ts)

-- a look at the argument that has the key
pub seen-among : (g : Graph) (ms : List Bool) (us : List Term) (ts : List TermId) (t : TermId) (key : Key) → us ≡ all_read g ts → key_argument ms ts ≡ Some t → IsSeen key (read g t.index names) → IsSeenAmong key ms us
seen-among g ms us ts t key e a seen f = ap (key_among ms) e ∙ key-read g ms ts (Some t) a ∙ seen f

-- nothing is told
pub nothing-seen : (ms : List Bool) (us : List Term) → IsSeenAmong Any ms us
nothing-seen ms us e = absurd (let z : true ≡ false = e in cc)

-- the same term
pub seen-same : (key : Key) (u v : Term) → u ≡ v → IsSeen key v → IsSeen key u
seen-same key u v e seen = subst (IsSeen key) (sym e) seen

pub among-same : (key : Key) (ms : List Bool) (u v : Term) → u ≡ v → IsSeenAmong key ms (args_of v) → IsSeenAmong key ms (args_of u)
among-same key ms u v e seen = subst (λ z. IsSeenAmong key ms (args_of z)) (sym e) seen

-- the argument that has the key is a node of the heap
pub argument-there : (n : ℕ) (ms : List Bool) (ts : List TermId) (t : TermId) → key_argument ms ts ≡ Some t → AllOlder n ts → t.index < n
argument-there n ms ts t e v = argument-holds (λ (z : TermId). z.index < n) (AllOlder n) (λ x xs w. w.0) (λ x xs w. w.1) ms ts t e v
