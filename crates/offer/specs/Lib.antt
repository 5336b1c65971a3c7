pub mod State
pub mod Offer
pub mod Session
pub mod Calls
pub mod Run
