pub mod System
pub mod Rows
pub mod Inner
