-- Document 02, T-05: the laws of the round trip between text and syntax images.
pub mod Decimals
pub mod Leaves
pub mod TextTrip
pub mod Words
pub mod PrintRead
pub mod Exact
pub mod Front
pub mod ReadFits
pub mod ReadPrint
pub mod PassLaws
pub mod MetLaws
pub mod JobLaws
pub mod JobTrip
