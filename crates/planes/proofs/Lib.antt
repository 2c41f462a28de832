pub mod Edits
pub mod Digits
pub mod Forms
pub mod Inside
pub mod Leaves
pub mod Room
pub mod Tables
