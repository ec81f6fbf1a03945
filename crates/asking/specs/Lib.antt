pub mod Kinds
pub mod Answering
pub mod Stopping
pub mod Pieces
