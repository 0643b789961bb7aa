pub mod Selection
pub mod Light
pub mod Equations
pub mod Row
pub mod Theorems
pub mod Example
