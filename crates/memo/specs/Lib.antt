pub mod Known
pub mod Changed
