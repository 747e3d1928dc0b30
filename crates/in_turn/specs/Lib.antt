-- What the run of a flow with the workers in turn promises.
pub mod Promises
