-- What the constructor of a flow makes.
pub mod Made
