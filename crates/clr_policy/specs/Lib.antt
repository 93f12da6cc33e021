pub mod Written
pub mod PolicyFile
pub mod Breaches
pub mod Unrolled
pub mod Judged
pub mod StockLists
