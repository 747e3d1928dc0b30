-- Laws that the proofs of the writer cite, and that its contract allows one outcome only.
pub mod Laid
pub mod Order
pub mod Outcomes
pub mod Unique
