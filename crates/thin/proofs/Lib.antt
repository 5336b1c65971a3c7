pub mod Locals
pub mod Kind
pub mod Others
pub mod Walk
pub mod Call
