-- What an answer for two files says of them.
pub mod Answers
