pub mod Lengths
pub mod InTurn
pub mod Definition
