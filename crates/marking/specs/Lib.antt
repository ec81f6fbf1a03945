pub mod Chains
pub mod Marks
pub mod Roots
pub mod Kept
