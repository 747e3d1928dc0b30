-- The rules of 01 and 02 for running a flow, and the words and statements of demand 3. Each module opens with what it defines and with the
-- part of 01 or 02 that it stands for.
pub mod Operations
pub mod Plain
pub mod Machine
pub mod Step
pub mod Run
pub mod Turns
pub mod History
pub mod Held
pub mod Answers
pub mod Bench
pub mod Errors
pub mod Conflict
pub mod Done
pub mod Written
pub mod Demand
pub mod Auditor
pub mod Waiting
pub mod Longest
pub mod Versions
pub mod Retired
