pub mod Endings
pub mod Panels
pub mod Scans
pub mod Shrinks
pub mod Texts
pub mod UsesJobs
