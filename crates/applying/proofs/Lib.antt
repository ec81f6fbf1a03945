pub mod Testing
pub mod Allowing
pub mod Functions
pub mod Working
