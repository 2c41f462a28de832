pub mod Spreads
pub mod Closes
