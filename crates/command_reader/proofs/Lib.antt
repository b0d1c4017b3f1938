-- Laws that the reader of a command rests on.
pub mod NextCommand
