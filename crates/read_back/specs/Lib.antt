pub mod ReadBack
pub mod Runs
