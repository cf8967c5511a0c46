pub mod RowLaws
pub mod WalkLaws
pub mod SearchLaws
pub mod MissLaws
pub mod AnswerLaws
pub mod GateLaws
