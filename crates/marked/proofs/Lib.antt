pub mod Marked
pub mod Ported
