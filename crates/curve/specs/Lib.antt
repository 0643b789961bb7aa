pub mod Quotients
pub mod Curve
