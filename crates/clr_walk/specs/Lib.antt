pub mod Prefixes
pub mod Tight
pub mod BestLaw
pub mod Walks
