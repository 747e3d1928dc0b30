-- What the writer of a flow file answers and leaves.
pub mod Answers
pub mod Promises
