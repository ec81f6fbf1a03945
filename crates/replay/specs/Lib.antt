pub mod Page
pub mod Stream
