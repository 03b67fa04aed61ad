pub mod Blanks
pub mod Ends
pub mod Smalls
pub mod Fills
