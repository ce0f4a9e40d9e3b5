pub mod AnyHosts
pub mod Registries
pub mod Executing
pub mod Reasons
