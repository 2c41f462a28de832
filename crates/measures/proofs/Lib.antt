pub mod Rows
pub mod Ends
pub mod Grounds
pub mod Roominess
