-- Laws of the table of modes.
pub mod Digits
pub mod Pairs
pub mod Table
pub mod Owed
