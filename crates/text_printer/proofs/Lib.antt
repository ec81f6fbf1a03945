pub mod FrontLaws
pub mod WalkLaws
pub mod SpellLaws
pub mod AtomLaws
pub mod AheadLaws
pub mod TextLaws
pub mod PrintLaws
