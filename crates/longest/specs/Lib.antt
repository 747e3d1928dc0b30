-- How long a run of a flow can take.
pub mod Answers
pub mod Promises
