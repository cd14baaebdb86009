-- What crates above cite of these lemmas: demands one after another, and which types a demand depends on.
use Rattle.std.proofs.Common.{◌≡◌, ◌∙◌, ℕ, ◌<◌, ◌≤◌, List, length, map, All, Bool, true, false, refl, subst, sym, arith}
use Rattle.std.proofs.lemmas.List.{length-map}
use Rattle.type_graph.specs.declared.node.Node.{Node}
use Rattle.type_graph.specs.Types.{Ty}
use Rattle.type_graph.specs.Graph.{Solves, node_at}
use Rattle.type_graph.specs.Solved.{Below}
use Rattle.type_terms.specs.declared.scope.Scope as code
use Rattle.type_terms.specs.Read.{AreNodes, AreKnown}
use Rattle.type_terms.specs.FreeNodes.{Frees}
use Rattle.type_terms.specs.Demands.{Meets, Demands}
pub use Rattle.type_terms.proofs.Composing.{if-ok}
pub use Rattle.type_terms.proofs.Demanding.{same-demand}
use Rattle.type_terms.proofs.Composing.{below-trans}
use Rattle.type_terms.proofs.Scopes.{map-below}
use Rattle.type_terms.proofs.Readings.{nodes-more}

-- what is demanded depends on the nodes below n alone
abbrev pub DependsBelow : ℕ → ((ℕ → Ty) → Type 0) → Type 0
DependsBelow n D = (v w : ℕ → Ty) → Below n v w → D v → D w

-- nothing is demanded
pub meets-nothing : (ns : List Node) (C : (ℕ → Ty) → Type 0) → ((v : ℕ → Ty) → C v) → Meets ns ns C
meets-nothing ns C c = record { longer = omega arith; back = λ v s. s; sound = λ v s. c v; complete = λ v s d. (v, s, (λ k l. refl)) }

-- one demand after another
pub demands-both : (ns ms ns' : List Node) (C D E : (ℕ → Ty) → Type 0) (b : Bool) → DependsBelow (length ns) D
    → ((v : ℕ → Ty) → E v → C v × D v) → ((v : ℕ → Ty) → C v → D v → E v) → Meets ns ms C → Demands ms ns' D b → Demands ns ns' E b
demands-both ns ms ns' C D E true depends split join m d = record {
  longer = omega (arith, m.longer, d.longer);
  back = λ v s. m.back v (d.back v s);
  sound = λ v s. join v (m.sound v (d.back v s)) (d.sound v s);
  complete = λ v s e.
      let parts = split v e in
      let p = m.complete v s parts.0 in
      let q = d.complete p.0 p.1 (depends v p.0 p.2 parts.1) in
      (q.0, q.1, below-trans (length ns) (length ms) v p.0 q.0 m.longer p.2 q.2);
}
demands-both ns ms ns' C D E false depends split join m d = λ v s e.
    let parts = split v e in
    let p = m.complete v s parts.0 in
    d p.0 p.1 (depends v p.0 p.2 parts.1)

-- a demand that can't be met is a part of this one
pub demands-part : (ns ns' : List Node) (C E : (ℕ → Ty) → Type 0) → ((v : ℕ → Ty) → E v → C v) → Demands ns ns' C false → Demands ns ns' E false
demands-part ns ns' C E part d = λ v s e. d v s (part v e)

-- nodes that are known stay so
pub known-more : (ns ms : List Node) (s : code.Scope) → length ns ≤ length ms → AreKnown ns s → AreKnown ms s
known-more ns ms s h k = record { constants = nodes-more ns ms s.constants.now h k.constants; variables = nodes-more ns ms s.variables.now h k.variables }

-- what is demanded of the types of constants and variables depends on their nodes alone
pub known-depends : (ns : List Node) (s : code.Scope) (P : List Ty → List Ty → Type 0) → AreKnown ns s → DependsBelow (length ns) (λ v. P (map v s.constants.now) (map v s.variables.now))
known-depends ns s P k v w below h =
    subst (λ cs. P cs (map w s.variables.now)) (sym (map-below (length ns) s.constants.now v w k.constants below))
    (subst (P (map v s.constants.now)) (sym (map-below (length ns) s.variables.now v w k.variables below)) h)

-- and what is demanded of the types of constants
pub constants-depend : (ns : List Node) (constants : List ℕ) (P : List Ty → Type 0) → AreNodes ns constants → DependsBelow (length ns) (λ v. P (map v constants))
constants-depend ns constants P nodes v w below h = subst P (sym (map-below (length ns) constants v w nodes below)) h

-- a demand on the types of some new variables: they have some types
pub variables-demanded : (ns ms ns' : List Node) (constants nodes : List ℕ) (count : ℕ) (P : List Ty → List Ty → Type 0) (b : Bool) → AreNodes ns constants → Frees ns count nodes ms
    → Demands ms ns' (λ v. P (map v constants) (map v nodes)) b → Demands ns ns' (λ v. (types : List Ty) × (length types ≡ count) × P (map v constants) types) b
variables-demanded ns ms ns' constants nodes count P b known f d = go b d
  where
    start : (v : ℕ → Ty) (types : List Ty) → Solves (node_at ns) v → length types ≡ count → P (map v constants) types → (w : ℕ → Ty) × Solves (node_at ms) w × Below (length ns) v w × P (map w constants) (map w nodes)
    start v types s each p =
        let q = f.on v types s each in
        (q.0, q.1, q.2, subst (λ cs. P cs (map q.0 nodes)) (sym (map-below (length ns) constants v q.0 known q.2)) (subst (P (map v constants)) (sym q.3) p))

    go : (b : Bool) → Demands ms ns' (λ v. P (map v constants) (map v nodes)) b → Demands ns ns' (λ v. (types : List Ty) × (length types ≡ count) × P (map v constants) types) b
    go true d = record {
      longer = omega (arith, f.longer, d.longer);
      back = λ v s. f.back v (d.back v s);
      sound = λ v s. (map v nodes, length-map nodes v ∙ f.each, d.sound v s);
      complete = λ v s e.
          let p = start v e.0 s e.1 e.2 in
          let q = d.complete p.0 p.1 p.3 in
          (q.0, q.1, below-trans (length ns) (length ms) v p.0 q.0 f.longer p.2 q.2);
    }
    go false d = λ v s e. let p = start v e.0 s e.1 e.2 in d p.0 p.1 p.3

-- the new nodes of variables are known beside the constants
pub variables-known : (ns ms : List Node) (nodes : List ℕ) (count : ℕ) (s : code.Scope) → AreNodes ns s.constants.now → s.variables.now ≡ nodes → Frees ns count nodes ms → AreKnown ms s
variables-known ns ms nodes count s constants e f = record { constants = nodes-more ns ms s.constants.now f.longer constants; variables = subst (AreNodes ms) (sym e) f.nodes_in }

-- nodes that are known have the same types
pub types-below : (n : ℕ) (nodes : List ℕ) (v w : ℕ → Ty) → All (λ k. k < n) nodes → Below n v w → map w nodes ≡ map v nodes
types-below = map-below
