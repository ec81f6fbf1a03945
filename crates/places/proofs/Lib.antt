pub mod Things
pub mod Noting
pub mod Walking
pub mod Standing
pub mod Passing
pub mod Along
