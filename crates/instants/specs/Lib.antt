pub mod Digit
pub mod Grid
pub mod Firing
pub mod Forward
pub mod Backward
pub mod Sourced
pub mod Claims
