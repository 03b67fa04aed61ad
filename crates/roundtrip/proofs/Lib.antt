pub mod Decimals
pub mod Taken
pub mod Lines
pub mod Trip
pub mod Smallest
