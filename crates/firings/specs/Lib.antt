pub mod Fired
pub mod Rested
pub mod Folded
pub mod Ready
pub mod Used
