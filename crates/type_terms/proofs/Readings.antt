-- Trees are read part by part.
use Rattle.std.proofs.Common.{◌≡◌, ℕ, zero, suc, ◌-◌, ◌<◌, ◌≤◌, ◌++◌, List, [], ◌∷◌, length, map, reverse, take, Option, Some, None, slice_get, get_or, refl, sym, ap, ◌∙◌, subst, arith}
use Rattle.std.proofs.lemmas.List.{length-reverse, get_or-reverse}
use Rattle.ref_terms.specs.terms.Term as term
use Rattle.ref_terms.specs.terms.Term.{Term}
use Rattle.ref_terms.specs.declared.tree.Tree.{Tree}
use Rattle.type_graph.specs.declared.node.Node.{Node}
use Rattle.type_graph.specs.declared.node.Node.TheVariants.{Free}
use Rattle.type_graph.specs.Types.{Ty}
use Rattle.type_graph.specs.Graph.{Solves, node_at}
use Rattle.type_graph.specs.Solved.{Below, Adds}
use Rattle.type_terms.specs.Typing.{IsAt, HasConstant, HasType}
use Rattle.lp_resolve.specs.Trees.{as_term, with_arguments}
use Rattle.type_terms.specs.declared.scheme.Polytype.{Polytype}
use Rattle.type_terms.specs.Schemes.{IsInstanceOf}
use Rattle.type_terms.specs.Nodes.{Reads, Answers, Arrows, Applies}
use Rattle.type_terms.specs.declared.scope.Scope as code
use Rattle.type_terms.specs.Read.{AreNodes, AreKnown, Scope, types_of, Has, Gives, HasTree, HasConstantAt, HasApplied, declared_of, scope, with_binders}
use Rattle.type_terms.proofs.Composing.{IsLocal, below-trans, application, application-untyped, abstraction, abstraction-untyped, there}
use Rattle.type_terms.proofs.Scopes.{map-below, binders-more, all-reverse, has-local, at-there, at-only, at-none, gives-last, gives-more, gives-some, spine-to, spine-from}

-- the nodes of a scope stand in the graph
pub record IsScope (ns : List Node) (s : Scope) : Type 0 where
  pub constants : AreNodes ns s.constants
  pub variables : AreNodes ns s.variables
  pub binders : AreNodes ns s.binders

pub nodes-more : (ns ms : List Node) (ks : List ℕ) → length ns ≤ length ms → AreNodes ns ks → AreNodes ms ks
nodes-more ns ms ks h a k d l = let b : get_or ks k d < length ns = a k d l in omega (arith, b, h)

pub local : (ns : List Node) (s : Scope) (u : Term) → IsScope ns s → IsLocal (length ns) (Has s u)
local ns s u is = has-local (length ns) s u is.constants is.variables (all-reverse (length ns) s.binders is.binders)

-- what stands in a list
pub listed : (ns : List Node) (J : (ℕ → Ty) → Ty → Type 0) (ks : List ℕ) (i : ℕ) (r : Option ℕ) → r ≡ slice_get ks i → AreNodes ns ks → ((v : ℕ → Ty) (t : Ty) → J v t → IsAt (map v ks) i t) → ((v : ℕ → Ty) (t : Ty) → IsAt (map v ks) i t → J v t) → Answers ns ns J r
listed ns J ks i None e nodes to from = λ v t s j. at-none ks i v t (sym e) (to v t j)
listed ns J ks i (Some n) e nodes to from = there ns J n (within ks i n (sym e) nodes) (λ v. from v (v n) (at-there ks i n v (sym e))) (λ v t j. at-only ks i n v t (sym e) (to v t j))
  where
    within : (ks : List ℕ) (i n : ℕ) → slice_get ks i ≡ Some n → AreNodes ns ks → n < length ns
    within [] i n e a = absurd (let c : None ≡ Some n = e in cc)
    within (k ∷ ks) zero n e a = let c : Some k ≡ Some n = e in let d : k ≡ n = cc in let h : k < length ns = a 0 0 (omega arith) in omega (arith, h, d)
    within (k ∷ ks) (suc i) n e a = within ks i n e (λ j d l. a (suc j) d (omega (arith, l)))

-- an abstraction
body-leave : (d : ℕ → Option Polytype) (cs xs bs : List ℕ) (body : Term) (a : ℕ) (v : ℕ → Ty) (t : Ty) → Has (scope d cs xs (bs ++ a ∷ [])) body v t → HasType d (types_of (scope d cs xs bs) v) (v a ∷ map v (reverse bs)) body t
body-leave d cs xs bs body a v t h = subst (λ ks. HasType d (types_of (scope d cs xs bs) v) (map v ks) body t) (binders-more bs a) h

body-enter : (ns : List Node) (d : ℕ → Option Polytype) (cs xs bs : List ℕ) (body : Term) (a : ℕ) → IsScope ns (scope d cs xs bs) → (v w : ℕ → Ty) (s t : Ty) → Below (length ns) v w → w a ≡ s
    → HasType d (types_of (scope d cs xs bs) v) (s ∷ map v (reverse bs)) body t → Has (scope d cs xs (bs ++ a ∷ [])) body w t
body-enter ns d cs xs bs body a is v w s t below e h =
    let n = length ns in
    subst (λ ks. HasType d (types_of (scope d cs xs bs) w) (map w ks) body t) (sym (binders-more bs a))
    (subst (λ ks. HasType d (record { constants = ks; variables = map w xs }) (w a ∷ map w (reverse bs)) body t) (sym (map-below n cs v w is.constants below))
    (subst (λ ks. HasType d (record { constants = map v cs; variables = ks }) (w a ∷ map w (reverse bs)) body t) (sym (map-below n xs v w is.variables below))
    (subst (λ ks. HasType d (types_of (scope d cs xs bs) v) (w a ∷ ks) body t) (sym (map-below n (reverse bs) v w (all-reverse n bs is.binders) below))
    (subst (λ u. HasType d (types_of (scope d cs xs bs) v) (u ∷ map v (reverse bs)) body t) (sym e) h))))

pub abstracted : (ns ms ls ns' : List Node) (d : ℕ → Option Polytype) (cs xs bs : List ℕ) (body u : Term) (a b n : ℕ) → IsScope ns (scope d cs xs bs) → u ≡ term.Lam body → Adds ns Free a ms → Reads ms ls (Has (scope d cs xs (bs ++ a ∷ [])) body) b → Arrows ls a b n ns'
    → Reads ns ns' (Has (scope d cs xs bs) u) n
abstracted ns ms ls ns' d cs xs bs body u a b n is e x y z =
    subst (λ t. Reads ns ns' (Has (scope d cs xs bs) t) n) (sym e)
    (abstraction ns ms ls ns' (Has (scope d cs xs (bs ++ a ∷ [])) body) (Has (scope d cs xs bs) (term.Lam body)) (λ v s t. HasType d (types_of (scope d cs xs bs) v) (s ∷ map v (reverse bs)) body t) a b n x y z
    (body-leave d cs xs bs body a) (body-enter ns d cs xs bs body a is) (λ v t j. j) (λ v s t j. (s, t, refl, j)))

pub abstracted-none : (ns ms ls : List Node) (d : ℕ → Option Polytype) (cs xs bs : List ℕ) (body u : Term) (a : ℕ) → IsScope ns (scope d cs xs bs) → u ≡ term.Lam body → Adds ns Free a ms → Answers ms ls (Has (scope d cs xs (bs ++ a ∷ [])) body) None
    → Answers ns ls (Has (scope d cs xs bs) u) None
abstracted-none ns ms ls d cs xs bs body u a is e x y =
    subst (λ t. Answers ns ls (Has (scope d cs xs bs) t) None) (sym e)
    (abstraction-untyped ns ms ls (Has (scope d cs xs (bs ++ a ∷ [])) body) (Has (scope d cs xs bs) (term.Lam body)) (λ v s t. HasType d (types_of (scope d cs xs bs) v) (s ∷ map v (reverse bs)) body t) a x y
    (body-enter ns d cs xs bs body a is) (λ v t j. j))

-- a head with its arguments
gives-local : (ns : List Node) (s : Scope) (args : List Tree) → IsScope ns s → (v w : ℕ → Ty) (f t : Ty) → Below (length ns) v w → Gives s v f args t → Gives s w f args t
gives-local ns s [] is v w f t below g = g
gives-local ns s (a ∷ args) is v w f t below g = (g.0, g.1, g.2, local ns s (as_term a) is v w g.0 below g.3, gives-local ns s args is v w g.1 t below g.4)

pub headed : (ns ms ns' : List Node) (s : Scope) (h u : Term) (args : List Tree) (f : ℕ) (r : Option ℕ) → IsScope ns s → u ≡ with_arguments h (map as_term args) → Reads ns ms (Has s h) f → Answers ms ns' (λ v t. Gives s v (v f) args t) r → Answers ns ns' (Has s u) r
headed ns ms ns' s h u args f r is e rf ra = subst (λ t. Answers ns ns' (Has s t) r) (sym e) (go r ra)
  where
    start : (v : ℕ → Ty) (t : Ty) → Solves (node_at ns) v → Has s (with_arguments h (map as_term args)) v t → (w : ℕ → Ty) × Solves (node_at ms) w × Below (length ns) v w × Gives s w (w f) args t
    start v t so j =
        let parts = spine-to s v h args t j in
        let p = rf.complete v parts.0 so parts.1 in
        (p.0, p.1, p.2, subst (λ x. Gives s p.0 x args t) (sym p.3) (gives-local ns s args is v p.0 parts.0 t p.2 parts.2))

    go : (r : Option ℕ) → Answers ms ns' (λ v t. Gives s v (v f) args t) r → Answers ns ns' (Has s (with_arguments h (map as_term args))) r
    go (Some n) ra = record {
      longer = omega (arith, rf.longer, ra.longer);
      place = ra.place;
      back = λ v so. rf.back v (ra.back v so);
      sound = λ v so. let q = ra.back v so in spine-from s v h args (v n) (v f) (rf.sound v q) (ra.sound v so);
      complete = λ v t so j.
          let p = start v t so j in
          let q = ra.complete p.0 t p.1 p.3 in
          (q.0, q.1, below-trans (length ns) (length ms) v p.0 q.0 rf.longer p.2 q.2, q.3);
    }
    go None ra = λ v t so j. let p = start v t so j in ra p.0 t p.1 p.3

pub headed-none : (ns ms : List Node) (s : Scope) (h u : Term) (args : List Tree) → u ≡ with_arguments h (map as_term args) → Answers ns ms (Has s h) None → Answers ns ms (Has s u) None
headed-none ns ms s h u args e ra = subst (λ t. Answers ns ms (Has s t) None) (sym e) (λ v t so j. let parts = spine-to s v h args t j in ra v parts.0 so parts.1)

-- arguments one by one
pub spine-first : (ns : List Node) (s : Scope) (f : ℕ) → f < length ns → Reads ns ns (λ v t. Gives s v (v f) [] t) f
spine-first ns s f h = there ns (λ v t. Gives s v (v f) [] t) f h (λ v. refl) (λ v t j. j)

pub spine-next : (ns ms ls ns' : List Node) (s : Scope) (function : ℕ) (args : List Tree) (a : Tree) (f x : ℕ) (r : Option ℕ) → IsScope ns s → Reads ns ms (λ v t. Gives s v (v function) args t) f → Reads ms ls (HasTree s a) x → Applies ls f x ns' r
    → Answers ns ns' (λ v t. Gives s v (v function) (args ++ a ∷ []) t) r
spine-next ns ms ls ns' s function args a f x r is rf ra rr =
    application ns ms ls ns' (λ v t. Gives s v (v function) args t) (HasTree s a) (λ v t. Gives s v (v function) (args ++ a ∷ []) t) f x r rf ra rr (local ns s (as_term a) is)
    (λ v t j. gives-last s v (v function) args a t j) (λ v t b g h. gives-more s v (v function) args a t b g h)

pub spine-untyped : (ns ms ls : List Node) (s : Scope) (function : ℕ) (args : List Tree) (a : Tree) (f : ℕ) → IsScope ns s → Reads ns ms (λ v t. Gives s v (v function) args t) f → Answers ms ls (HasTree s a) None
    → Answers ns ls (λ v t. Gives s v (v function) (args ++ a ∷ []) t) None
spine-untyped ns ms ls s function args a f is rf ra =
    application-untyped ns ms ls (λ v t. Gives s v (v function) args t) (HasTree s a) (λ v t. Gives s v (v function) (args ++ a ∷ []) t) f rf ra (local ns s (as_term a) is)
    (λ v t j. gives-last s v (v function) args a t j)

-- where the first arguments have no type
pub spine-whole : (ns ls : List Node) (s : Scope) (function i : ℕ) (args : List Tree) → Answers ns ls (λ v t. Gives s v (v function) (take i args) t) None → Answers ns ls (λ v t. Gives s v (v function) args t) None
spine-whole ns ls s function i args no' v t so j = let p = gives-some s v (v function) i args t j in no' v p.0 so p.1

-- bound names
slice_get-in : (xs : List ℕ) (i d : ℕ) → i < length xs → slice_get xs i ≡ Some (get_or xs i d)
slice_get-in [] i d h = absurd (omega (arith, h))
slice_get-in (x ∷ xs) zero d h = refl
slice_get-in (x ∷ xs) (suc i) d h = slice_get-in xs i d (omega (arith, h))

slice_get-past : (xs : List ℕ) (i : ℕ) → length xs ≤ i → slice_get xs i ≡ None
slice_get-past [] i h = refl
slice_get-past (x ∷ xs) zero h = absurd (omega (arith, h))
slice_get-past (x ∷ xs) (suc i) h = slice_get-past xs i (omega (arith, h))

pub bound-at : (bs : List ℕ) (i n : ℕ) → i < length bs → n ≡ get_or bs (length bs - 1 - i) n → slice_get (reverse bs) i ≡ Some n
bound-at bs i n h e = slice_get-in (reverse bs) i n (omega (arith, h, length-reverse bs)) ∙ ap Some (get_or-reverse bs i n h ∙ sym e)

pub bound-past : (bs : List ℕ) (i : ℕ) → length bs ≤ i → slice_get (reverse bs) i ≡ None
bound-past bs i h = slice_get-past (reverse bs) i (omega (arith, h, length-reverse bs))

-- constants
pub con-declared : (ns ns' : List Node) (s : Scope) (c : ℕ) (p : Polytype) (n : ℕ) → s.declared c ≡ Some p → Reads ns ns' (λ v t. IsInstanceOf p t) n → Reads ns ns' (Has s (term.At (term.Con c))) n
con-declared ns ns' s c p n e = subst (λ o. Reads ns ns' (λ v t. HasConstant s.declared o (map v s.constants) c t) n) (sym e)

pub con-undeclared : (ns : List Node) (s : Scope) (c : ℕ) (r : Option ℕ) → s.declared c ≡ None → r ≡ slice_get s.constants c → AreNodes ns s.constants → Answers ns ns (Has s (term.At (term.Con c))) r
con-undeclared ns s c r e at nodes =
    subst (λ o. Answers ns ns (λ v t. HasConstant s.declared o (map v s.constants) c t) r) (sym e)
    (listed ns (λ v t. IsAt (map v s.constants) c t) s.constants c r at nodes (λ v t j. j) (λ v t j. j))

-- a constant with arguments, under no binders
pub known-scope : (ns : List Node) (s : code.Scope) → AreKnown ns s → IsScope ns (with_binders s [])
known-scope ns s k = record { constants = k.constants; variables = k.variables; binders = λ i d h. absurd (omega (arith, h)) }

pub applied-to : (ns ms ns' : List Node) (s : code.Scope) (c : ℕ) (args : List Tree) (f : ℕ) (r : Option ℕ) → AreKnown ns s → Reads ns ms (HasConstantAt (declared_of s.declared.now) s.constants.now c) f
    → Answers ms ns' (λ v t. Gives (with_binders s []) v (v f) args t) r → Answers ns ns' (HasApplied (with_binders s []) c args) r
applied-to ns ms ns' s c args f r k rf ra = headed ns ms ns' (with_binders s []) (term.At (term.Con c)) (with_arguments (term.At (term.Con c)) (map as_term args)) args f r (known-scope ns s k) refl rf ra

pub applied-none : (ns ms : List Node) (s : code.Scope) (c : ℕ) (args : List Tree) → Answers ns ms (HasConstantAt (declared_of s.declared.now) s.constants.now c) None → Answers ns ms (HasApplied (with_binders s []) c args) None
applied-none ns ms s c args ra = headed-none ns ms (with_binders s []) (term.At (term.Con c)) (with_arguments (term.At (term.Con c)) (map as_term args)) args refl ra
