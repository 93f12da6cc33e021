pub mod Masses
pub mod Run
