pub mod Words
pub mod Pages
pub mod Turns
