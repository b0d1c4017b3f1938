-- Definitions of the program's text, and what a function that adds to a line ensures.
pub mod Text
pub mod inner
