pub mod Buffers
pub mod Planning
pub mod Living
pub mod Unset
pub mod Advanced
pub mod Moved
