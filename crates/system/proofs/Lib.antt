pub mod Light
pub mod FirstRow
pub mod Weighing
pub mod Searches
pub mod Numbers
pub mod Arrays
pub mod Setup
pub mod Quotients
