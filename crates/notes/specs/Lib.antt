-- How a run keeps what it tells of its held steps.
pub mod Noted
