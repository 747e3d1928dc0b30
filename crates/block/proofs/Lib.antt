-- What the letters at the front of a block are, and what is left to ask once the rules 2 and 3 are kept.
pub mod Letters
pub mod Past
