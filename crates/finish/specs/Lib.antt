pub mod Ends
pub mod Headings
pub mod Finishing
