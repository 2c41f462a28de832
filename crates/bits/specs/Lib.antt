pub mod Member
pub mod Words
pub mod Counting
pub mod LittleEndian
