pub mod Digests
pub mod Proved
