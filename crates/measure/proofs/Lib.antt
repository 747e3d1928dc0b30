-- Laws of the total and of the schedule in turn that the proofs of the code cite.
pub mod Accepted
pub mod Filled
pub mod Sums
pub mod Measuring
pub mod Unique
