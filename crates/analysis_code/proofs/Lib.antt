-- Laws of the analysis.
pub mod Ties
pub mod Reading
pub mod Subsuming
pub mod Fitting
pub mod Turns
pub mod Calls
