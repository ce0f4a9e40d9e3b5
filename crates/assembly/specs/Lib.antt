pub mod Contexts
pub mod Growth
pub mod Listing
pub mod Assembled
