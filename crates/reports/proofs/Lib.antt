pub mod Dividing
pub mod Totalling
pub mod Lines
pub mod Settling
pub mod Exact
