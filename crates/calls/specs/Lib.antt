pub mod Promise
pub mod Perform
