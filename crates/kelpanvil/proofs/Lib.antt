pub mod Printed
pub mod Enough
pub mod Determined
