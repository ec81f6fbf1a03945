pub mod Judging
pub mod Found
pub mod Limiting
pub mod Items
pub mod Writing
pub mod Measuring
pub mod Job
