pub mod Firsts
pub mod Subjects
pub mod Containers
pub mod Lists
pub mod Carriers
