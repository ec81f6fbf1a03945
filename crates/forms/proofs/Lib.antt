pub mod Shapes
pub mod Names
