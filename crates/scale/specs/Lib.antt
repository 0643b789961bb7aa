pub mod Scale
pub mod Inner
