pub mod Numbers
pub mod Identity
pub mod Meaning
pub mod Questions
pub mod Law
pub mod Empty
