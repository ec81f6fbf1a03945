pub mod Fronts
pub mod Walking
pub mod Spelling
pub mod Atoms
pub mod Printing
pub mod Job
