pub mod Lists
pub mod Entries
pub mod Scopes
pub mod Places
