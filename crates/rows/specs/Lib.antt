-- What the numbers in a row stand for.
pub mod Codes
