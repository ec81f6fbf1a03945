pub mod States
pub mod Agreement
