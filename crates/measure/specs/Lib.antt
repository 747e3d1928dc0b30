-- What is measured of a flow file.
pub mod Answers
pub mod Promises
