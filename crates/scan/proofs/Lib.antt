pub mod Masks
pub mod Scans
