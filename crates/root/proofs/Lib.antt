pub mod Whole
pub mod Nearest
pub mod One
pub mod Taken
pub mod Bits
pub mod Ends
pub mod Laws
