pub mod ChainLaws
pub mod MarkLaws
pub mod KeptLaws
pub mod AheadLaws
pub mod RootLaws
