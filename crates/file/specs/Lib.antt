-- What the check of a flow file answers.
pub mod Answers
pub mod Promises
