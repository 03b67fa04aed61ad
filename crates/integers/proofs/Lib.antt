pub mod Sums
pub mod Puts
