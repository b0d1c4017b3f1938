-- Laws of threads and of the words that hold them.
pub mod Comparing
pub mod Trails
pub mod Parts
pub mod Words
pub mod Slots
pub mod ByPlace
