pub mod Histories
pub mod OneByOne
pub mod PowerUps
pub mod Demand
pub mod RunEnds
pub mod Counted
