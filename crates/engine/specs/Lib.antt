pub mod Rooms
pub mod Judging
pub mod Validates
