-- What the stepped run's arrays stand for, and what a file must be for a run.
pub mod Ready
pub mod Arrays
pub mod Numbers
