pub mod SlotRuns
pub mod TellRuns
pub mod Keeping
pub mod ClauseRuns
pub mod ListRuns
pub mod TextRuns
pub mod AnswerLaws
pub mod Determined
