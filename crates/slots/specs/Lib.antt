-- Definitions of threads, and of the words that hold them.
pub mod inner
