pub mod Probing
pub mod Rewriting
