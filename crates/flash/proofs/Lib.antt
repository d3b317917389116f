pub mod Areas
pub mod Writes
pub mod Parts
pub mod Loops
pub mod Closing
pub mod Targets
pub mod Shown
