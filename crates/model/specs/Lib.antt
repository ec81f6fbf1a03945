-- Document 01 as definitions that compute: what is right. Read in this order. Every file opens with the section that it puts down. Two places differ
-- from the paper's order: Resolving stands before Reading, since an image has bindings, and Evaluating, Parsing and Expanding stand the other
-- way round, since expanding uses the two before it. Evaluating uses expanding too (request T-08): it is handed what an entry below does.
pub mod Choice
pub mod Limits
pub mod Refusals
pub mod Scopes
pub mod Objects
pub mod Trees
pub mod Resolving
pub mod Competing
pub mod Reading
pub mod Writing
pub mod Meanings
pub mod Steps
pub mod Evaluating
pub mod Parsing
pub mod Expanding
pub mod Jobs
