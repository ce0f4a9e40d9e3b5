pub mod Equality
pub mod Rolls
