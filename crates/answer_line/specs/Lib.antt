pub mod Calls
pub mod Format
pub mod Numbers
pub mod Words
