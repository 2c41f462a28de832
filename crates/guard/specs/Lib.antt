pub mod Guards
pub mod Evaluated
