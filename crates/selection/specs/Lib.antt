pub mod Selection
pub mod Inner
