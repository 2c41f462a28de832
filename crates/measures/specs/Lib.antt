pub mod Measured
pub mod Setting
pub mod Working
pub mod Roomy
