pub mod Jobs
pub mod Examples
