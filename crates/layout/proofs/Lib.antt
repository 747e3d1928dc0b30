-- Laws of the definitions in specs/, which the proofs of the code and the theorems cite.
pub mod Blocks
pub mod Cases
pub mod Versions
pub mod Retired
pub mod Fletcher
pub mod Lists
pub mod Modes
pub mod Refusals
pub mod Zeros
