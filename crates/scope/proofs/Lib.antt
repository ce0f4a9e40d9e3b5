pub mod Lists
pub mod Claims
pub mod Changes
mod Tables
mod Outcomes
