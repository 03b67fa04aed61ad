pub mod Spans
pub mod Checked
