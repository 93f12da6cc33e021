pub mod Rows
pub mod Summaries
pub mod Leads
