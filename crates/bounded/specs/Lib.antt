pub mod Row
pub mod Tells
