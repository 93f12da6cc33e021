pub mod Calendar
pub mod Limits
pub mod Rules
pub mod LiveSummaries
pub mod FirstPath
