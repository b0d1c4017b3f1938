-- The theory of runs: the computed answer meets the third demand, no other does, and dropping threads loses nothing.
pub mod Lists
pub mod Comparison
pub mod Trails
pub mod Stretch
pub mod Moves
pub mod Least
pub mod Reach
pub mod Meets
pub mod Counts
pub mod Unique
pub mod LeastTrails
pub mod Insert
pub mod Select
pub mod Settle
pub mod Within
pub mod Growth
pub mod OneByOne
pub mod Pursuit
pub mod Spare
pub mod Aged
pub mod Alike
pub mod Moved
mod Examples
