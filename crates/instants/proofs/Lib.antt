pub mod TestLaws
pub mod DigitLaws
pub mod PlaceLaws
pub mod StepNumbers
pub mod FiringLaws
pub mod BackwardLaws
pub mod ForwardLaws
pub mod TableSources
