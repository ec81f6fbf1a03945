pub mod Charge
pub mod OneNameOneAddress
