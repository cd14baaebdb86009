pub mod FormLemmas
pub mod SliceLemmas
pub mod WordLemmas
