-- What the check of a row knows between its parts.
pub mod Table
