pub mod Ring
pub mod Sums
pub mod Reading
pub mod Lists
pub mod Split
pub mod Masses
pub mod Within
pub mod Cells
