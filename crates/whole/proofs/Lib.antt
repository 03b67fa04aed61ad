pub mod Signed
pub mod Joined
pub mod Digits
pub mod Texts
pub mod Logs
