-- Laws of bare numbers and what they stand for, which the proofs of the code cite; and that a step's contract allows one outcome only.
pub mod Numbers
pub mod Filled
pub mod Bytes
pub mod Steps
pub mod Unique
