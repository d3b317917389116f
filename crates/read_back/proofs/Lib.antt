pub mod Standing
pub mod Passing
pub mod Placed
pub mod Claim
pub mod Runs
