-- Laws of growing a line, and of its parts.
pub mod Growing
pub mod Parts
