pub mod Cases
pub mod Puts
pub mod Short
