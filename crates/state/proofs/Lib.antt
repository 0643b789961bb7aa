pub mod Digits
pub mod Search
pub mod Checks
pub mod PassesLimits
pub mod PastOrder
pub mod Lists
mod Example
