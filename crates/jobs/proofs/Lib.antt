pub mod Charging
pub mod Endings
pub mod Roots
pub mod Definitions
pub mod Naming
pub mod Resolved
