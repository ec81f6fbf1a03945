pub mod Singles
pub mod Taking
