pub mod Recurrence
pub mod Theorems
