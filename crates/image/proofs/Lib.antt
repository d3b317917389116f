pub mod Digest
pub mod SameDigest
