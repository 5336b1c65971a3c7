pub mod Checks
pub mod Counts
pub mod Lengths
pub mod Offers
pub mod Runs
pub mod Sessions
