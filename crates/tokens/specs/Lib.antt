pub mod Walk
pub mod Decimals
pub mod Pieces
pub mod Nexts
