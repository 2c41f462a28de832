mod Moves
pub mod Useless
