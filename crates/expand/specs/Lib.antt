pub mod Making
pub mod Leaves
pub mod Values
pub mod InPlace
pub mod Evaluation
pub mod Cycle
