pub mod Substituting
