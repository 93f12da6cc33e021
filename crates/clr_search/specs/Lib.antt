pub mod Found
pub mod Listed
pub mod Along
pub mod Settings
pub mod ClosedLaw
pub mod Seeds
