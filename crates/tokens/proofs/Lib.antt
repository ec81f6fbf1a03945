pub mod RunLaws
pub mod DecimalLaws
pub mod Names
pub mod PieceLaws
pub mod NextLaws
pub mod Uses
