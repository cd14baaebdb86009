pub mod BelowLaws
pub mod ReadyLaws
pub mod SearchLaws
pub mod TermLaws
pub mod TextLaws
pub mod TouchLaws
pub mod UnifyLaws
