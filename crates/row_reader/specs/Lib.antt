-- What the row reader answers, what its functions promise, and what a sequence of its calls is.
pub mod Answers
pub mod Promises
pub mod Calls
