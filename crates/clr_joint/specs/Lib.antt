pub mod Tables
pub mod BySummary
pub mod Folds
pub mod Ends
pub mod Rows
pub mod Weeks
pub mod Laws
