pub mod Wholes
pub mod OneAnswer
pub mod PanelAnswers
pub mod ScanAnswers
pub mod ShrinkAnswers
pub mod TextAnswers
pub mod UsesAnswers
