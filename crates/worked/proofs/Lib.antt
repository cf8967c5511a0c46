pub mod Flag
pub mod Samples
pub mod Examples
