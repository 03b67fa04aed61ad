pub mod Examples
pub mod Runs
pub mod Cuts
pub mod Correct
pub mod Nothing
pub mod Demand3
pub mod Listed
