pub mod Entries
pub mod Lines
pub mod Comparing
pub mod Answers
pub mod Example
