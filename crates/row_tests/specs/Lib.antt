pub mod Left
pub mod Under
