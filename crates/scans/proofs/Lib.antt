pub mod Bools
pub mod Search
pub mod Places
pub mod Order
pub mod Exactly
pub mod Lists
