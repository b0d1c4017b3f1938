-- Laws that the closure rests on.
pub mod Rounds
