pub mod Items
pub mod Spelling
pub mod Guards
pub mod Grammar
pub mod Records
pub mod Points
pub mod Bytewise
pub mod Starts
