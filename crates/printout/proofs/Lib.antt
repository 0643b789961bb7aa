pub mod Lines
pub mod Jobs
pub mod Frames
pub mod Answers
pub mod Longer
pub mod Example
