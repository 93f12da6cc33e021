pub mod Coming
pub mod Leaving
pub mod RunLemmas
pub mod Spreads
pub mod Sweeps
pub mod Using
