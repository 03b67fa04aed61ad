pub mod Walks
pub mod Lines
pub mod Compares
