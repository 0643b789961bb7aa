pub mod Holds
pub mod Values
