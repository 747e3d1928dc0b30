-- What the outcomes of a step stand for.
pub mod Outcomes
