-- The first argument.
use Rattle.std.proofs.Common.{◌≡◌, ℕ, List, [], ◌∷◌, length, reverse, ap, arith, subst}
use Rattle.level_terms.specs.declared.node.TermId.{TermId}
use Rattle.level_terms.specs.Graph.{Graph}
use Rattle.level_terms.specs.Reading.{read}
use Rattle.beta_fragment.specs.Names.{names}
use Rattle.beta_fragment.specs.Firm.{IsReadiness}
use Rattle.beta_fragment.specs.inside.Turn.{IsFirst, NoneReady}
use Rattle.beta_fragment.specs.declared.glance.Readiness.{Readiness}
use Rattle.beta_fragment.specs.declared.glance.Readiness.TheVariants.{Level, Ready, Unready, Unknown}

pub first-known : (g : Graph) (depth : ℕ) (a : TermId) (more : List TermId) (r : Readiness) → IsReadiness g depth (read g a.index names) r → IsFirst g depth (a ∷ more) r
first-known g depth a more (Level k) h = h
first-known g depth a more (Ready r) h = h
first-known g depth a more Unready h = h
first-known g depth a more Unknown h = tt

pub none-first : (g : Graph) (args : List TermId) → args ≡ [] → NoneReady g (reverse args)
none-first g [] e = tt
none-first g (a ∷ args) e = absurd (let k : length (a ∷ args) ≡ 0 = ap length e in omega (arith, k))

pub level-first : (g : Graph) (depth k : ℕ) (args front : List TermId) (a : TermId) → args ≡ a ∷ front → IsFirst g depth args (Level k) → IsFirst g depth (a ∷ front) (Level k)
level-first g depth k args front a e h = subst (λ ts. IsFirst g depth ts (Level k)) e h
