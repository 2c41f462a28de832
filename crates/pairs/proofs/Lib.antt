pub mod PairCounts
