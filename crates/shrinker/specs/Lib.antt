pub mod Using
pub mod Job
