pub mod Cases
pub mod Handing
