-- What the public calls that run a flow promise.
pub mod Answers
pub mod Demand
pub mod Held
pub mod Promises
pub mod Waiting
pub mod Written
