-- Laws that the proofs of the reader cite, and that its contract allows one outcome only.
pub mod Outcomes
pub mod Unique
