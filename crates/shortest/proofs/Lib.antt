pub mod Limbs
pub mod Turns
