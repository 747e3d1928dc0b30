-- Laws of the machine that the arrays stand for, which the proofs of the code cite; and that an accepted file is ready for a step.
pub mod Places
pub mod Machines
pub mod Changes
pub mod Growth
pub mod Accepted
