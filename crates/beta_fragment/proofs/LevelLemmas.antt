-- Levels that stand in a node.
use Rattle.std.proofs.Common.{◌≡◌, inl, inr, ℕ, zero, suc, ◌<◌, ◌-◌, ◌++◌, List, [], ◌∷◌, length, map, take, get_or, Option, Some, None, refl, sym, ap, ◌∙◌, arith, subst, length-append}
use Rattle.std.proofs.lemmas.List.{map-append}
use Rattle.level_terms.specs.declared.node.Node.TheVariants.{Level, App}
use Rattle.level_terms.specs.declared.node.TermId.{TermId}
use Rattle.level_terms.specs.Graph.{Graph, node_at}
use Rattle.level_terms.specs.Sound.{IsSound, AllOlder}
use Rattle.level_terms.specs.Reading.{read, enter}
use Rattle.level_terms.proofs.CoverLemmas.{places-enter}
use Rattle.level_terms.proofs.NodeLemmas.{nodes_read}
use Rattle.ref_terms.specs.terms.Term as term
use Rattle.ref_terms.specs.terms.Term.{Term, At}
use Rattle.ref_terms.specs.terms.Eta.{eta, partial, both, previous, on_index}
use Rattle.ref_terms.specs.terms.Apply.{apply}
use Rattle.ref_terms.specs.unification.Spine.{apply_all}
use Rattle.beta_fragment.specs.Firm.{IsPlain, IsPlainNode, EndsOtherwise, NoneAmong, HasLevel, SomeHas}
use Rattle.beta_fragment.proofs.FirmLemmas.{apply-plain, apply_all-plain, apply_all-end}
use Rattle.beta_fragment.proofs.VarLemmas.{enter-own}

pub level-has : (g : Graph) (t l level : ℕ) → IsSound g → node_at g.nodes t ≡ Some (Level l) → l ≡ level → HasLevel g level t
level-has g t l level s e q env p w h = ap (partial p) (nodes_read g t (Level l) env s w e ∙ ap env q) ∙ h

both-left : (x y : Option Term) → x ≡ None → both x y ≡ None
both-left x y e = ap (λ z. both z y) e

both-right : (x y : Option Term) → y ≡ None → both x y ≡ None
both-right None y e = refl
both-right (Some x) y e = ap (both (Some x)) e

-- what isn't in a head with some arguments has no image
head-none : (p : ℕ → Option ℕ) (xs : List Term) (t : Term) → IsPlain t → partial p t ≡ None → partial p (apply_all t xs) ≡ None
head-none p [] t w e = e
head-none p (x ∷ xs) t w e = head-none p xs (apply t x) (subst IsPlain (sym (apply-plain t x w)) tt) (ap (partial p) (apply-plain t x w) ∙ both-left (partial p t) (partial p x) e)

args-none : (p : ℕ → Option ℕ) (xs : List Term) (t : Term) → IsPlain t → NoneAmong p xs → partial p (apply_all t xs) ≡ None
args-none p [] t w n = absurd n
args-none p (x ∷ xs) t w (inl e) = head-none p xs (apply t x) (subst IsPlain (sym (apply-plain t x w)) tt) (ap (partial p) (apply-plain t x w) ∙ both-right (partial p t) (partial p x) e)
args-none p (x ∷ xs) t w (inr n) = args-none p xs (apply t x) (subst IsPlain (sym (apply-plain t x w)) tt) n

pub app-has : (g : Graph) (t level : ℕ) (k : TermId) (ts : List TermId) → IsSound g → node_at g.nodes t ≡ Some (App k ts) → IsPlainNode g k.index → SomeHas g level ts → HasLevel g level t
app-has g t level k ts s e plain some env p w h =
    ap (partial p) (nodes_read g t (App k ts) env s w e) ∙ args-none p (map (λ u. read g u.index env) ts) (read g k.index env) (plain env w) (some env p w h)

-- one of a list
among-here : (p : ℕ → Option ℕ) (f : TermId → Term) (ts : List TermId) (i : ℕ) (d : TermId) → i < length ts → partial p (f (get_or ts i d)) ≡ None → NoneAmong p (map f ts)
among-here p f [] i d h e = absurd (omega (arith, h))
among-here p f (t ∷ ts) zero d h e = inl e
among-here p f (t ∷ ts) (suc i) d h e = inr (among-here p f ts i d (omega (arith, h)) e)

pub some-has : (g : Graph) (level : ℕ) (ts : List TermId) (i : ℕ) (d : TermId) → i < length ts → HasLevel g level (get_or ts i d).index → SomeHas g level ts
some-has g level ts i d h w env p q e = among-here p (λ t. read g t.index env) ts i d h (w env p q e)

-- an application that ends in the abstracted name, and has it before
on_none : (a : Term) → on_index a None ≡ None
on_none (At (term.Bound zero)) = refl
on_none (At (term.Bound (suc i))) = refl
on_none (At (term.Con i)) = refl
on_none (At (term.Int i)) = refl
on_none (At (term.Str i)) = refl
on_none (At (term.Name i)) = refl
on_none (At (term.Var i)) = refl
on_none (term.Lam b) = refl
on_none (term.App f a) = refl

front-of : (front : List TermId) (u : TermId) (ts : List TermId) → ts ≡ front ++ u ∷ [] → take (length ts - 1) ts ≡ front
front-of front u ts e = ap (λ zs. take (length zs - 1) zs) e ∙ ap (λ n. take n (front ++ u ∷ [])) (let l = length-append front (u ∷ []) in let q : length (front ++ u ∷ []) - 1 ≡ length front = omega (arith, l) in q) ∙ take-front_all front (u ∷ [])
  where
    take-front_all : (xs ys : List TermId) → take (length xs) (xs ++ ys) ≡ xs
    take-front_all [] ys = refl
    take-front_all (x ∷ xs) ys = ap (λ (zs : List TermId). x ∷ zs) (take-front_all xs ys)

pub repeats-ends : (g : Graph) (t depth : ℕ) (k u : TermId) (ts front : List TermId) → IsSound g → node_at g.nodes t ≡ Some (App k ts) → ts ≡ front ++ u ∷ [] → IsPlainNode g k.index → SomeHas g depth (take (length ts - 1) ts) → EndsOtherwise g depth t
repeats-ends g t depth k u ts front s e split plain some env w =
    let places = places-enter depth env w in
    let among = subst (SomeHas g depth) (front-of front u ts split) some (enter depth env) previous places (ap (partial previous) (enter-own depth env)) in
    let none = args-none previous (map (λ z. read g z.index (enter depth env)) front) (read g k.index (enter depth env)) (plain (enter depth env) places) among in
    let flat = apply_all-plain (map (λ z. read g z.index (enter depth env)) front) (read g k.index (enter depth env)) (plain (enter depth env) places) in
    ap eta (nodes_read g t (App k ts) (enter depth env) s places e
    ∙ ap (λ (us : List TermId). apply_all (read g k.index (enter depth env)) (map (λ z. read g z.index (enter depth env)) us)) split
    ∙ ap (apply_all (read g k.index (enter depth env))) (map-append (λ z. read g z.index (enter depth env)) front (u ∷ []))
    ∙ apply_all-end (map (λ z. read g z.index (enter depth env)) front) (read g k.index (enter depth env)) (read g u.index (enter depth env))
    ∙ apply-plain (apply_all (read g k.index (enter depth env)) (map (λ z. read g z.index (enter depth env)) front)) (read g u.index (enter depth env)) flat)
    ∙ ap (on_index (read g u.index (enter depth env))) none
    ∙ on_none (read g u.index (enter depth env))

pub older-at : (m : ℕ) (ts : List TermId) (i : ℕ) (d : TermId) → i < length ts → AllOlder m ts → (get_or ts i d).index < m
older-at m [] i d h w = absurd (omega (arith, h))
older-at m (t ∷ ts) zero d h w = w.0
older-at m (t ∷ ts) (suc i) d h w = older-at m ts i d (omega (arith, h)) w.1

pub older-take : (m n : ℕ) (ts : List TermId) → AllOlder m ts → AllOlder m (take n ts)
older-take m zero ts w = tt
older-take m (suc n) [] w = tt
older-take m (suc n) (t ∷ ts) w = (w.0, older-take m n ts w.1)
