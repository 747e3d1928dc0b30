-- What is measured is what the run with the workers in turn asks, and what comes of that run.
pub mod InTurn
pub mod Measured
