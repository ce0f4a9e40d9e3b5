pub mod Members
pub mod Meanings
