-- Document 02 as definitions that compute: the requests that are no rule of document 01.
pub mod Panel
pub mod OneToOne
pub mod Recording
pub mod Scanning
pub mod Binary
pub mod Written
pub mod ScanJob
pub mod Tokens
pub mod FromText
pub mod ToText
pub mod TextJobs
pub mod Report
pub mod Uses
pub mod Replacing
