pub mod Moods
