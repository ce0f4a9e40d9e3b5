pub mod Grammar
pub mod Reasons
