pub mod Grouped
pub mod Held
pub mod Wired
pub mod Kinds
pub mod Steady
pub mod Turns
