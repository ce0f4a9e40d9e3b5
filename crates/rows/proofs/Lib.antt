pub mod Answering
pub mod Fronts
pub mod Gathering
pub mod Questions
pub mod ListFacts
pub mod Breaking
pub mod Lawfulness
