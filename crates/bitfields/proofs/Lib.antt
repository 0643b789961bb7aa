pub mod Spelling
pub mod Reading
pub mod Writing
pub mod RoundTrip
pub mod Twos
pub mod Steps
pub mod Example
