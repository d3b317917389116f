pub mod Answers
pub mod Checks
pub mod States
pub mod Decisions
pub mod Requests
pub mod StepsAccepted
pub mod TriggerEnds
pub mod MidSwap
