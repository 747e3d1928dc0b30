-- Laws that the proofs of the row check share, and what is left to ask of a row that keeps all rules but 17.
pub mod Indexes
pub mod Codes
pub mod Once
pub mod Keeps
pub mod Last
