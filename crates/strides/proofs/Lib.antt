pub mod Moves
pub mod Repeats
pub mod Parts
pub mod Digits
