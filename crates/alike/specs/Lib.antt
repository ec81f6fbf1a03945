pub mod Renumbering
