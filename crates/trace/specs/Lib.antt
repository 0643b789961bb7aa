pub mod Trace
pub mod Inner
pub mod Theorems
pub mod PastOrder
