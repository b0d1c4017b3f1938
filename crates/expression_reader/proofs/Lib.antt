-- Laws that the reader of an expression rests on.
pub mod LowestPlace
pub mod NotedPlaces
pub mod Operands
