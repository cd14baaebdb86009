pub mod Firsts
pub mod Forms
pub mod KindMaps
pub mod Lists
pub mod NameLemmas
pub mod Preds
pub mod SchemeLemmas
pub mod Tables
