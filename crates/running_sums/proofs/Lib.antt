mod Columns
mod Stored
mod Put
mod Calls
mod Places
pub mod Theorems
pub mod PastOrder
pub mod NextStep
mod Example
