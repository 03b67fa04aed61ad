pub mod Counts
pub mod Works
pub mod Bounded
