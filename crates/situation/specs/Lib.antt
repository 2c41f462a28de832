pub mod Numbering
pub mod Rows
pub mod Ruled
