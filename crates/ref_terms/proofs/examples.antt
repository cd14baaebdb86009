pub mod FrozenExamples
pub mod KnotExamples
pub mod MostGeneralExample
pub mod OffenceExamples
pub mod QueryExamples
pub mod RuleExamples
pub mod Setting
pub mod TermExamples
