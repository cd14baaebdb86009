pub mod TreeLemmas
pub mod PairLemmas
pub mod KeptLemmas
