pub mod PointLaws
pub mod ObjectLaws
pub mod ObjectSizes
pub mod ObjectsKept
pub mod Spans
pub mod Trees
pub mod Kept
pub mod Whole
