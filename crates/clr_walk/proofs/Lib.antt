pub mod Precedence
pub mod Choosing
pub mod WalkLemmas
pub mod Listing
pub mod BestPath
