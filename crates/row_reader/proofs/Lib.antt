-- Laws of the reader's places and answers, the theorems over its calls, and that each contract allows one outcome only.
pub mod Places
pub mod Fetches
pub mod Sequence
pub mod Unique
