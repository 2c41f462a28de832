pub mod Steps
pub mod Stepping
