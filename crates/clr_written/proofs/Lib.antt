mod Pieces
mod Spelled
mod Alls
mod Keys
mod Numbers
mod Lines
mod Rows
mod Entries
mod Paths
mod Values
mod Joints
pub mod Accepted
