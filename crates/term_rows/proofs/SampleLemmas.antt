-- The nodes of the sample that the tests use.
use Rattle.std.proofs.Common.{◌≡◌, ℕ, List, [], ◌∷◌, true, Some, length, refl, ap, ◌∙◌}
use Rattle.level_terms.specs.declared.node.Node.{Node}
use Rattle.level_terms.specs.declared.node.Node.TheVariants.{Con, Level, Lam, App}
use Rattle.level_terms.specs.declared.node.TermId.{TermId}
use Rattle.level_terms.specs.Graph.{Graph, node_at}
use Rattle.level_terms.specs.Sound.{IsSound}
use Rattle.level_terms.specs.Reading.{read}
use Rattle.level_terms.specs.Valid.{valid}
use Rattle.ref_terms.specs.declared.sym.Sym.{Sym}
use Rattle.beta_fragment.specs.Firm.{IsPlain}
use Rattle.beta_fragment.specs.Names.{names}
use Rattle.beta_fragment.proofs.EnterLemmas.{names-places}
use Rattle.beta_fragment.proofs.FirmLemmas.{by-node}

abbrev pub sample : (f constant name body lam : TermId) (args more : List TermId) (a b : Sym) → List Node
sample f constant name body lam args more a b = App lam more ∷ Lam 0 body ∷ App f args ∷ Level 0 ∷ Con b ∷ Con a ∷ []

abbrev pub id : ℕ → TermId
id n = record { index = n }

-- the nodes, one after the other, and their numbers
pub record IsSample (nodes : List Node) (constant name lam redex : TermId) : Type 0 where
  pub a : Sym
  pub b : Sym
  pub nodes_are : nodes ≡ sample (id 0) (id 1) (id 2) (id 3) (id 4) (id 2 ∷ id 2 ∷ []) (id 1 ∷ []) a b
  pub constant_is : constant.index ≡ 1
  pub name_is : name.index ≡ 2
  pub lam_is : lam.index ≡ 4
  pub redex_is : redex.index ≡ 5

pub sample-made : (a b : Sym) (n0 n1 n2 n3 n4 n5 n6 : List Node) (f k x t l r : TermId) (args more : List TermId) → n0 ≡ []
    → f.index ≡ length n0 → n1 ≡ Con a ∷ n0 → k.index ≡ length n1 → n2 ≡ Con b ∷ n1 → x.index ≡ length n2 → n3 ≡ Level 0 ∷ n2
    → args ≡ x ∷ x ∷ [] → t.index ≡ length n3 → n4 ≡ App f args ∷ n3 → l.index ≡ length n4 → n5 ≡ Lam 0 t ∷ n4
    → more ≡ k ∷ [] → r.index ≡ length n5 → n6 ≡ App l more ∷ n5 → IsSample n6 k x l r
sample-made a b n0 n1 n2 n3 n4 n5 n6 f k x t l r args more e0 fi e1 ki e2 xi e3 us ti e4 li e5 ms ri e6 =
    let f0 : f ≡ id 0 = ap id (fi ∙ ap length e0) in
    let n1' : n1 ≡ Con a ∷ [] = e1 ∙ ap (λ ns. Con a ∷ ns) e0 in
    let ki' : k.index ≡ 1 = ki ∙ ap length n1' in
    let k0 : k ≡ id 1 = ap id ki' in
    let n2' : n2 ≡ Con b ∷ Con a ∷ [] = e2 ∙ ap (λ ns. Con b ∷ ns) n1' in
    let xi' : x.index ≡ 2 = xi ∙ ap length n2' in
    let x0 : x ≡ id 2 = ap id xi' in
    let n3' : n3 ≡ Level 0 ∷ Con b ∷ Con a ∷ [] = e3 ∙ ap (λ ns. Level 0 ∷ ns) n2' in
    let t0 : t ≡ id 3 = ap id (ti ∙ ap length n3') in
    let us' : args ≡ id 2 ∷ id 2 ∷ [] = us ∙ ap (λ y. y ∷ y ∷ []) x0 in
    let n4' : n4 ≡ App (id 0) (id 2 ∷ id 2 ∷ []) ∷ Level 0 ∷ Con b ∷ Con a ∷ [] =
    e4 ∙ ap (λ h. App h args ∷ n3) f0 ∙ ap (λ ys. App (id 0) ys ∷ n3) us' ∙ ap (λ ns. App (id 0) (id 2 ∷ id 2 ∷ []) ∷ ns) n3' in
    let li' : l.index ≡ 4 = li ∙ ap length n4' in
    let l0 : l ≡ id 4 = ap id li' in
    let n5' : n5 ≡ Lam 0 (id 3) ∷ App (id 0) (id 2 ∷ id 2 ∷ []) ∷ Level 0 ∷ Con b ∷ Con a ∷ [] =
    e5 ∙ ap (λ h. Lam 0 h ∷ n4) t0 ∙ ap (λ ns. Lam 0 (id 3) ∷ ns) n4' in
    let ms' : more ≡ id 1 ∷ [] = ms ∙ ap (λ y. y ∷ []) k0 in
    record {
      a = a;
      b = b;
      nodes_are = e6 ∙ ap (λ h. App h more ∷ n5) l0 ∙ ap (λ ys. App (id 4) ys ∷ n5) ms' ∙ ap (λ ns. App (id 4) (id 1 ∷ []) ∷ ns) n5';
      constant_is = ki';
      name_is = xi';
      lam_is = li';
      redex_is = ri ∙ ap length n5';
    }

pub constant-valid : (depths : List ℕ) (a b : Sym) → valid (sample (id 0) (id 1) (id 2) (id 3) (id 4) (id 2 ∷ id 2 ∷ []) (id 1 ∷ []) a b) depths 1 0 ≡ true
unfolding valid
constant-valid depths a b = refl

pub name-valid : (depths : List ℕ) (a b : Sym) → valid (sample (id 0) (id 1) (id 2) (id 3) (id 4) (id 2 ∷ id 2 ∷ []) (id 1 ∷ []) a b) depths 2 1 ≡ true
unfolding valid
name-valid depths a b = refl

pub lam-valid : (depths : List ℕ) (a b : Sym) → valid (sample (id 0) (id 1) (id 2) (id 3) (id 4) (id 2 ∷ id 2 ∷ []) (id 1 ∷ []) a b) depths 4 0 ≡ true
unfolding valid
lam-valid depths a b = refl

pub redex-valid : (depths : List ℕ) (a b : Sym) → valid (sample (id 0) (id 1) (id 2) (id 3) (id 4) (id 2 ∷ id 2 ∷ []) (id 1 ∷ []) a b) depths 5 0 ≡ true
unfolding valid
redex-valid depths a b = refl

pub constant-there : (depths : List ℕ) (nodes : List Node) (constant name lam redex : TermId) → IsSample nodes constant name lam redex → valid nodes depths constant.index 0 ≡ true
constant-there depths nodes constant name lam redex s = ap (λ ns. valid ns depths constant.index 0) s.nodes_are ∙ ap (λ t. valid (sample (id 0) (id 1) (id 2) (id 3) (id 4) (id 2 ∷ id 2 ∷ []) (id 1 ∷ []) s.a s.b) depths t 0) s.constant_is ∙ constant-valid depths s.a s.b

pub name-there : (depths : List ℕ) (nodes : List Node) (constant name lam redex : TermId) → IsSample nodes constant name lam redex → valid nodes depths name.index 1 ≡ true
name-there depths nodes constant name lam redex s = ap (λ ns. valid ns depths name.index 1) s.nodes_are ∙ ap (λ t. valid (sample (id 0) (id 1) (id 2) (id 3) (id 4) (id 2 ∷ id 2 ∷ []) (id 1 ∷ []) s.a s.b) depths t 1) s.name_is ∙ name-valid depths s.a s.b

pub lam-there : (depths : List ℕ) (nodes : List Node) (constant name lam redex : TermId) → IsSample nodes constant name lam redex → valid nodes depths lam.index 0 ≡ true
lam-there depths nodes constant name lam redex s = ap (λ ns. valid ns depths lam.index 0) s.nodes_are ∙ ap (λ t. valid (sample (id 0) (id 1) (id 2) (id 3) (id 4) (id 2 ∷ id 2 ∷ []) (id 1 ∷ []) s.a s.b) depths t 0) s.lam_is ∙ lam-valid depths s.a s.b

pub redex-there : (depths : List ℕ) (nodes : List Node) (constant name lam redex : TermId) → IsSample nodes constant name lam redex → valid nodes depths redex.index 0 ≡ true
redex-there depths nodes constant name lam redex s = ap (λ ns. valid ns depths redex.index 0) s.nodes_are ∙ ap (λ t. valid (sample (id 0) (id 1) (id 2) (id 3) (id 4) (id 2 ∷ id 2 ∷ []) (id 1 ∷ []) s.a s.b) depths t 0) s.redex_is ∙ redex-valid depths s.a s.b

pub constant-plain : (g : Graph) (constant name lam redex : TermId) → IsSound g → IsSample g.nodes constant name lam redex → IsPlain (read g constant.index names)
constant-plain g constant name lam redex sound s = by-node IsPlain g constant.index (Con s.b) sound (ap (λ ns. node_at ns constant.index) s.nodes_are ∙ ap (node_at (sample (id 0) (id 1) (id 2) (id 3) (id 4) (id 2 ∷ id 2 ∷ []) (id 1 ∷ []) s.a s.b)) s.constant_is) (λ env p. tt) names names-places
