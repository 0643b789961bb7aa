pub mod Evaluator
pub mod Theorems
pub mod PastOrder
pub mod Inner
