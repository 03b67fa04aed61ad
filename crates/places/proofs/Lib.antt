pub mod Goods
pub mod Shared
