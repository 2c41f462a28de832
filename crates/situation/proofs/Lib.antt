pub mod Digits
pub mod Numbered
pub mod Cursors
pub mod Shaped
