-- What the laws of text in and text out speak of.
pub mod Single
pub mod Passes
