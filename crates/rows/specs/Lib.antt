pub mod Rows
pub mod Lists
pub mod Tables
pub mod Breaches
