pub mod Lists
pub mod Steps
pub mod FlatLemmas
pub mod TableLemmas
pub mod TotalLemmas
