-- The rules of 01 and 02 for the file. Each module opens with what it defines and with the part of 01 or 02 that it stands for.
pub mod Lists
pub mod Bytes
pub mod Refusal
pub mod Flow
pub mod Fletcher
pub mod Row
pub mod Block
pub mod File
pub mod Write
pub mod Cases
pub mod Versions
pub mod Retired
