pub mod Places
pub mod Start
pub mod Call
pub mod Encode
pub mod Place
