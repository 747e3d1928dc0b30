-- What it means that the reader and the writer undo one another as calls.
pub mod Undo
