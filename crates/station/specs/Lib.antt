pub mod State
pub mod Happening
pub mod TrustRegion
pub mod Sr1
pub mod Station
pub mod Lists
