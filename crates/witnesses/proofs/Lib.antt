pub mod Parts
pub mod Encoded
