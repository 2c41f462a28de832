pub mod PruneRows
pub mod WalkRows
