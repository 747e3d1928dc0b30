-- That a step of the code is a step of the rules, which the proofs of the code cite; and that a step's contract allows one outcome only.
pub mod Steps
pub mod Unique
