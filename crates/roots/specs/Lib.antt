pub mod Points
pub mod MeasuredObjects
pub mod Measuring
