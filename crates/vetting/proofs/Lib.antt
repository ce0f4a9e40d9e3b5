pub mod Keeping
pub mod Equals
pub mod Giving
pub mod Asking
pub mod Called
pub mod Mentioned
