-- In FIPS's order; Ring and Reading are the code's own.
pub mod Words
pub mod Constants
pub mod Message
pub mod Schedule
pub mod Rounds
pub mod Digest
pub mod Ring
pub mod Reading
