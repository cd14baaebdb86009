-- What contracts see of a trail.
use Rattle.std.specs.Prelude.{ℕ, List, refl}
use Rattle.std.specs.Coded.{Coded, code_by, coded×, coded_ℕ, coded_list}

-- the entries, oldest first, and how many more can be noted with no memory
pub record Log (E : Type 0) : Type 0 where
  pub entries : List E
  pub spare : ℕ

-- a log is stored as the pair of its fields
abbrev pub log_code : {E : Type 0} → Coded E → Coded (Log E)
log_code {E} code =
    code_by (List E × ℕ) (coded× (coded_list code) coded_ℕ) (λ l. (l.entries, l.spare)) (λ p. record { entries = p.0; spare = p.1 }) (λ _. refl)
