pub mod Small
pub mod Good
pub mod Lent
