pub mod Spans
pub mod Compare
pub mod Claims
