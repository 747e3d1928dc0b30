-- That a number and a place tell an answer, and the first refusal of a stretch of places.
pub mod Unique
pub mod First
