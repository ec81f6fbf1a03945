-- The proof bench of document 01.
pub mod Answers
pub mod ResolveJob
pub mod WhoCompetes
pub mod Uniqueness
pub mod Samples
pub mod ShamsRefuted
pub mod RulesRefuted
pub mod Composition
