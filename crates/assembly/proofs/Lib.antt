pub mod Naming
pub mod Growing
pub mod MetBefore
pub mod Offering
pub mod Fronts
pub mod Scoping
