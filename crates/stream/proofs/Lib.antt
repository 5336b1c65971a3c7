pub mod Filling
pub mod Found
pub mod Paper
pub mod Pieces
