-- Terms made anew from their readings.
use Rattle.std.proofs.Common.{◌≡◌, ℕ, ◌<◌, List, [], length, slice_index, None, sym, ap, ◌∙◌, arith, subst}
use Rattle.level_terms.specs.Graph.{Graph}
use Rattle.level_terms.specs.Sound.{IsSound}
use Rattle.level_terms.specs.Valid.{IsValid}
use Rattle.level_terms.specs.Reading.{read}
use Rattle.level_terms.proofs.LocalLemmas.{readings_local}
use Rattle.ref_terms.specs.terms.Term.{Term}
use Rattle.ref_terms.specs.terms.Apply.{fill}
use Rattle.beta_fragment.specs.Names.{names, renamed}
use Rattle.beta_fragment.specs.Quoted.{AllHeads, IsOpenHead, put_head}
use Rattle.beta_fragment.specs.inside.Settled.{IsQuotable}
use Rattle.beta_fragment.proofs.QuotableLemmas.{quotable-spine}
use Rattle.beta_fragment.proofs.SettledLemmas.{quoted-reads}

-- a node's reading, kept by its parts, can be quoted
pub rebuilt-quotable : (g : Graph) (depth t : ℕ) (ls : List ℕ) (x : Term) → IsSound g → IsValid g t depth → length ls ≡ depth → ((i : ℕ) → i < depth → slice_index ls i ≡ i) → x ≡ read g t (renamed ls) → AllHeads (IsOpenHead g) x → IsQuotable g depth x
rebuilt-quotable g depth t ls x s v long own reads heads =
    quotable-spine g depth t ls [] x s (subst (IsValid g t) (sym long) v)
    (λ i h. (let lt : i < depth = omega (arith, h, long) in let here = own i lt in omega (arith, here, lt)))
    tt reads heads

-- it is the reading at names
pub kept-reads : (g : Graph) (depth t : ℕ) (ls : List ℕ) (x : Term) → IsValid g t depth → ((i : ℕ) → i < depth → slice_index ls i ≡ i) → x ≡ read g t (renamed ls) → x ≡ read g t names
kept-reads g depth t ls x v own reads = reads ∙ readings_local g t depth (renamed ls) names v (λ i h. ap names (own i h))

-- and what is quoted reads the same
pub rebuilt-reads : (g : Graph) (depth t : ℕ) (ls : List ℕ) (x u : Term) → IsSound g → IsValid g t depth → length ls ≡ depth → ((i : ℕ) → i < depth → slice_index ls i ≡ i) → x ≡ read g t (renamed ls) → AllHeads (IsOpenHead g) x → u ≡ fill (put_head g depth None) x →
    u ≡ read g t names
rebuilt-reads g depth t ls x u s v long own reads heads e = quoted-reads g g depth x u (rebuilt-quotable g depth t ls x s v long own reads heads) e ∙ kept-reads g depth t ls x v own reads
