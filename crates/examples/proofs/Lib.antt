pub mod Examples
pub mod Counterexample
pub mod Unreached
pub mod Overheard
pub mod TwoVersions
pub mod TwoEditions
pub mod EarlyLate
pub mod Unlikely
