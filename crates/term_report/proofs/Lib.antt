pub mod Singles
pub mod Takings
pub mod Files
pub mod Sizes
