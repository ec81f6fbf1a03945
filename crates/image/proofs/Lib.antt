pub mod Heads
pub mod Answers
pub mod BehindHeads
pub mod Images
pub mod TreeImages
