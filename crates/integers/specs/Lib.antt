pub mod Sum
pub mod Flat
