-- The reader and the writer undo one another as calls. Theorems holds the two theorems, the other modules the facts they rest on.
pub mod Filled
pub mod Calls
pub mod Theorems
