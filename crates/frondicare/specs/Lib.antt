pub mod Digests
pub mod Tags
pub mod Steps
pub mod Answers
pub mod Additions
pub mod States
