pub mod Words
pub mod Answer
pub mod Told
pub mod Texts
