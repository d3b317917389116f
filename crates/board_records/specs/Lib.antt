pub mod Boards
pub mod Cases
