pub mod Reading
pub mod Sets
