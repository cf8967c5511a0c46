pub mod Chains
pub mod Plans
pub mod Walks
pub mod Meant
