pub mod Bit
pub mod Sets
pub mod Parts
pub mod AnyBelow
