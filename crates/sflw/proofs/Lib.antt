-- The words of a stepped run, and that each contract for C allows one outcome only.
pub mod Unique
pub mod Workers
