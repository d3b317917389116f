pub mod Geometry
pub mod Bytes
pub mod Steps
pub mod Cuts
pub mod Changes
pub mod Valid
