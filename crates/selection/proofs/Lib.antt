pub mod Chosen
pub mod Shift
pub mod Held
pub mod Digit
pub mod Example
