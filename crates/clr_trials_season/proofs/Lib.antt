mod Powers
pub mod Ranges
