-- Laws of the worst case that the proof of the code cites.
pub mod Figures
pub mod Unique
