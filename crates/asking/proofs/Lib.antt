pub mod ByKind
pub mod Answering
pub mod Stopping
pub mod Pieces
