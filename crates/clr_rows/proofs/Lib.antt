pub mod Lists
pub mod Bests
pub mod Leads
pub mod Prefixes
pub mod WeekRows
pub mod Places
pub mod Rungs
