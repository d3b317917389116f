pub mod Custom
pub mod Layout
pub mod Writer
pub mod Stored
