pub mod Options
pub mod Readings
pub mod Rules
pub mod Unasked
