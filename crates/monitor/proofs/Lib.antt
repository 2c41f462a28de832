pub mod Masks
pub mod Records
pub mod Described
