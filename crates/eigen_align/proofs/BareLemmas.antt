-- Alignment looks at names and terms alone.
use Rattle.std.proofs.Common.{◌≡◌, ℕ, zero, suc, nat_eq, List, [], ◌∷◌, map, filter, replicate, Option, Some, None, option_and_then, slice_get, refl, ap, ap₂, ◌∙◌}
use Rattle.ref_terms.specs.declared.pair.Pair.{Pair}
use Rattle.ref_terms.specs.search.Branch.{Constraint}
use Rattle.ref_terms.specs.search.Joint.{Joint, spine_at, paired_spines, map_at, identified, aligned, all_aligned, with_head, joined, joint}
use Rattle.eigen_align.specs.Sequents.{bare}

spine-bare : (i h : ℕ) (cs : List Constraint) → spine_at i (slice_get (map bare cs) h) ≡ spine_at i (slice_get cs h)
spine-bare i h [] = refl
spine-bare i zero (c ∷ cs) = refl
spine-bare i (suc h) (c ∷ cs) = spine-bare i h cs

aligned-bare : (cs : List Constraint) (maps : List (List ℕ)) (p : Pair) (o : Option (List (Option ℕ))) → aligned (map bare cs) maps p o ≡ aligned cs maps p o
aligned-bare cs maps p o =
    ap₂ (λ (a b : Option (ℕ × List ℕ)). option_and_then (λ ps. identified (map_at maps p.left_head) ps o) (paired_spines a b)) (spine-bare p.left_arg p.left_head cs) (spine-bare p.right_arg p.right_head cs)

all-bare : (cs : List Constraint) (maps : List (List ℕ)) (ps : List Pair) (o : Option (List (Option ℕ))) → all_aligned (map bare cs) maps ps o ≡ all_aligned cs maps ps o
all-bare cs maps [] o = refl
all-bare cs maps (p ∷ ps) o = ap (all_aligned (map bare cs) maps ps) (aligned-bare cs maps p o) ∙ all-bare cs maps ps (aligned cs maps p o)

joined-bare : (all : List Constraint) (pairs : List Pair) (i : ℕ) (cs : List Constraint) (j : Joint) → joined (map bare all) pairs i (map bare cs) j ≡ joined all pairs i cs j
joined-bare all pairs i [] j = refl
joined-bare all pairs i (c ∷ cs) j =
    ap (option_and_then (λ ms. joined (map bare all) pairs (suc i) (map bare cs) (with_head j ms))) (all-bare all j.maps (filter (λ p. nat_eq p.right_head i) pairs) (Some (replicate c.names None)))
    ∙ go (λ ms. joined-bare all pairs (suc i) cs (with_head j ms)) (all_aligned all j.maps (filter (λ p. nat_eq p.right_head i) pairs) (Some (replicate c.names None)))
  where
    go : ((ms : List (Option ℕ)) → joined (map bare all) pairs (suc i) (map bare cs) (with_head j ms) ≡ joined all pairs (suc i) cs (with_head j ms)) → (o : Option (List (Option ℕ))) →
        option_and_then (λ ms. joined (map bare all) pairs (suc i) (map bare cs) (with_head j ms)) o ≡ option_and_then (λ ms. joined all pairs (suc i) cs (with_head j ms)) o
    go rest None = refl
    go rest (Some ms) = rest ms

pub joint-bare : (pairs : List Pair) (cs : List Constraint) → joint pairs (map bare cs) ≡ joint pairs cs
joint-bare pairs [] = refl
joint-bare pairs (c ∷ cs) = joined-bare (c ∷ cs) pairs 1 cs _
