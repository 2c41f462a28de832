pub mod PruneCursors
pub mod PruneLaws
pub mod PruneLayers
pub mod WalkRoom
pub mod WalkMoves
pub mod WalkSteps
