pub mod Tables
pub mod BySummary
pub mod Rows
pub mod Weeks
pub mod Laws
