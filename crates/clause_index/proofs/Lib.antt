pub mod EqLemmas
pub mod ListLemmas
pub mod OrderLemmas
pub mod NumberLemmas
