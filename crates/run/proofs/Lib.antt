-- Laws that the proofs of the runs cite.
pub mod Demand
pub mod Done
pub mod Held
pub mod OneByOne
pub mod Outcomes
pub mod Finished
pub mod Unique
pub mod Waiting
pub mod Walking
pub mod Written
