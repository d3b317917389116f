pub mod Tested
pub mod ByProgress
pub mod Accepting
pub mod Triggering
pub mod Unverified
pub mod Begun
