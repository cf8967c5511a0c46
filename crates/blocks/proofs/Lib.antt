pub mod Words
pub mod Spots
