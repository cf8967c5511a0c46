pub mod Places
pub mod Operators
pub mod Operands
pub mod GuardsRead
