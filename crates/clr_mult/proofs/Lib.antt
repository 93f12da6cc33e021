pub mod Lists
pub mod Places
pub mod Products
pub mod Sums
pub mod Directions
pub mod RowLemmas
pub mod StepLemmas
