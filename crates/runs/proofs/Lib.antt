pub mod DecideLaws
pub mod OperationLaws
