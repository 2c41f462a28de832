pub mod Laws
mod Windows
mod Answers
