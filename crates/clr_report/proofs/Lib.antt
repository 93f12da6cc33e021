pub mod Cuts
pub mod PlanTexts
pub mod Joins
pub mod Spaced
pub mod OneLine
pub mod Names
pub mod Gaps
