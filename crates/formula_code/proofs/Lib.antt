-- Laws that the reader of a formula rests on.
pub mod FileWalk
pub mod SameCommands
pub mod Outline
pub mod Edges
pub mod FirstBad
pub mod SameAnswer
pub mod Answers
