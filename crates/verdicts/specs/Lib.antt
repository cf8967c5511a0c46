pub mod Running
pub mod Said
