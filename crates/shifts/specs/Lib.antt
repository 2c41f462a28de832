pub mod Filled
pub mod Shifted
