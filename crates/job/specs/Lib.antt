pub mod Refusal
pub mod Refused
pub mod Kind
pub mod Kinds
pub mod Header
pub mod Rules
