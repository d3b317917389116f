pub mod Tests
pub mod Parts
pub mod Sameness
pub mod Values
