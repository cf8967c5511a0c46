pub mod ReadBack
pub mod Apart
pub mod OneLine
pub mod Determined
pub mod Examples
