-- What follows from the definitions of document 02's requests.
pub mod Panel
pub mod PanelAfterCondition3
pub mod Lines
pub mod Rungs
pub mod Binary
pub mod Undriven
pub mod Unset
pub mod Starts
pub mod Recordings
pub mod Division
pub mod Report
pub mod Uses
pub mod Replacing
