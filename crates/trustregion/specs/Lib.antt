pub mod Settings
pub mod Session
pub mod Laws
pub mod Calls
pub mod Run
pub mod Demand3
