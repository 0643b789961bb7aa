pub mod RunningSums
pub mod Theorems
pub mod Inner
