pub mod Batch
pub mod Parts
