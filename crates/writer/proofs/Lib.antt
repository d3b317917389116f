pub mod Stores
pub mod Run
pub mod Accepted
pub mod Whole
