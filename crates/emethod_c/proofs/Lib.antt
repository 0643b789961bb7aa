pub mod Packed
pub mod Jobs
pub mod Words
pub mod Fits
