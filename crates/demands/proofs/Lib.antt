-- The theorems of the three demands (Demands), and the laws they rest on.
pub mod Files
pub mod Search
pub mod Calls
pub mod Translation
pub mod Rows
pub mod Exports
pub mod Demands
