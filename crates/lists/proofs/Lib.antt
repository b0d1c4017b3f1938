-- Laws of lists as words, and of reading them back.
pub mod Steps
pub mod Holding
pub mod Back
