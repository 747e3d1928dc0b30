-- What the answer of the flow type's constructor tells, and that its contract allows one outcome only.
pub mod Answers
pub mod Unique
