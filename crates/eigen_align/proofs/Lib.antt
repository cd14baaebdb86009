pub mod FormLemmas
pub mod IdentifiedLemmas
pub mod JointLemmas
pub mod LiftLemmas
pub mod AlignedLemmas
pub mod BareLemmas
