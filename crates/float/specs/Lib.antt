pub mod Numbers
pub mod Constants
