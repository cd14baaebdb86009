pub mod FormLemmas
pub mod ArgumentLemmas
pub mod ClashLemmas
pub mod AssumptionLemmas
pub mod SeenLemmas
pub mod PassLemmas
pub mod CallerLemmas
