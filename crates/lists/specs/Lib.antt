-- Definitions of lists as words, and of reading them back.
pub mod inner
