-- Laws of what a run keeps of its steps, which the proofs of the code cite.
pub mod Noted
pub mod Stored
