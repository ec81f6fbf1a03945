pub mod Shrunk
pub mod Finished
pub mod ShrinkJob
