pub mod Cases
pub mod Calls
pub mod Hessians
pub mod Skips
pub mod Zeros
pub mod Ends
