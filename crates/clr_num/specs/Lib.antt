pub mod Lists
pub mod Sums
pub mod Prices
pub mod Rounding
pub mod Direction
pub mod DirectionLaws
pub mod Money
