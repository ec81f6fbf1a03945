pub mod Calls
pub mod Lent
pub mod Printing
pub mod Laying
pub mod Taking
