pub mod Rooms
pub mod Turns
pub mod Running
pub mod OneStep
