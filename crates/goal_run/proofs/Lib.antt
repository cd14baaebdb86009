pub mod ShapeLemmas
pub mod CodeLemmas
pub mod LineLemmas
pub mod StartLemmas
pub mod SuspendedLemmas
