-- Laws that the proofs of the check, of the reader and of the writer cite, and that the check's contract allows one outcome only.
pub mod Laid
pub mod Order
pub mod Outcomes
pub mod Unique
pub mod Zeros
