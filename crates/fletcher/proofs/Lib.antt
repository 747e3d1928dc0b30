-- Fletcher's sums over bytes that are taken in parts.
pub mod Parts
