pub mod Dividing
pub mod Totals
pub mod Texts
