pub mod PlaceLaws
pub mod Texts
