pub mod Vectors
pub mod Slots
pub mod Sizes
pub mod Ends
pub mod Largest
pub mod Norms
