pub mod Whole
pub mod Digits
