pub mod Slots
pub mod Vector
pub mod Refusal
pub mod Calls
