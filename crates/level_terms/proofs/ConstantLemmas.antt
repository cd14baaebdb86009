-- A new constant is valid at each depth, and no variable is reached from it.
use Rattle.std.proofs.Common.{◌≡◌, ℕ, ◌∷◌, length, true, false, refl, sym, subst, eq-eqb}
use Rattle.ref_terms.specs.declared.sym.Sym.{Sym}
use Rattle.level_terms.specs.declared.node.Node.TheVariants.{Con}
use Rattle.level_terms.specs.Graph.{Graph}
use Rattle.level_terms.specs.Valid.{valid}
use Rattle.level_terms.specs.Reached.{tree, IsUnreached, reaches}

newest_valid : (g : Graph) (c : Sym) (d : ℕ) → valid (Con c ∷ g.nodes) g.depths (length g.nodes) d ≡ true
unfolding valid
newest_valid g c d = rw (eq-eqb (length g.nodes) (length g.nodes) refl) refl

newest_unreached : (g : Graph) (c : Sym) (v : ℕ) → reaches v (tree (record g { nodes = Con c ∷ g.nodes }) (length g.nodes)) ≡ false
unfolding tree
newest_unreached g c v = rw (eq-eqb (length g.nodes) (length g.nodes) refl) refl

pub constant_valid : (g h : Graph) (t : ℕ) (c : Sym) (d : ℕ) → t ≡ length g.nodes → h ≡ record g { nodes = Con c ∷ g.nodes } → valid h.nodes h.depths t d ≡ true
constant_valid g h t c d i e = subst (λ z. valid z.nodes z.depths t d ≡ true) (sym e) (subst (λ k. valid (Con c ∷ g.nodes) g.depths k d ≡ true) (sym i) (newest_valid g c d))

pub constant_unreached : (g h : Graph) (t : ℕ) (c : Sym) (v : ℕ) → t ≡ length g.nodes → h ≡ record g { nodes = Con c ∷ g.nodes } → IsUnreached h v t
constant_unreached g h t c v i e = subst (λ z. IsUnreached z v t) (sym e) (subst (λ k. reaches v (tree (record g { nodes = Con c ∷ g.nodes }) k) ≡ false) (sym i) (newest_unreached g c v))
