pub mod ForwardRows
pub mod ForwardPass
pub mod EmptiedPairs
