pub mod Settings
pub mod Session
pub mod Laws
pub mod Calls
pub mod Skips
pub mod Run
