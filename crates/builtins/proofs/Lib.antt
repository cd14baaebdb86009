pub mod ApplyLemmas
pub mod CallLemmas
pub mod ExpressionLemmas
pub mod MoveLemmas
pub mod NumberLemmas
pub mod PendingLemmas
pub mod QuestionLemmas
