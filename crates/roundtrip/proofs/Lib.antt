-- The reader and the writer undo one another. Theorems and Exactly hold the statements, the other modules the facts they rest on.
pub mod Parts
pub mod Pieces
pub mod Below
pub mod NoRefusal
pub mod Rows
pub mod BlockRules
pub mod BlockRead
pub mod BlockWritten
pub mod Answers
pub mod Places
pub mod Written
pub mod Read
pub mod Accepted
pub mod Retired
pub mod Theorems
pub mod Exactly
