pub mod Horner
pub mod Differences
pub mod Rows
pub mod Quotients
pub mod Value
pub mod Examples
pub mod ExampleQuotients
