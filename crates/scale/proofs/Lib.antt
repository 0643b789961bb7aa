pub mod Smallest
pub mod LeadingZeros
pub mod Example
