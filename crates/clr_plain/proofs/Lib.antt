pub mod Outcomes
pub mod Chances
pub mod Sales
pub mod Totals
