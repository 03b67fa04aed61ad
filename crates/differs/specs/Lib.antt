pub mod Tally
pub mod Books
