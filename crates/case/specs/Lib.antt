pub mod Case
pub mod Lines
