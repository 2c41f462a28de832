pub mod Numbering
pub mod Built
pub mod Planes
