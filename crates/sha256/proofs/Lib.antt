pub mod Recurrence
pub mod Rounds
pub mod Sums
pub mod Padding
pub mod Parsing
pub mod Answers
pub mod Pieces
