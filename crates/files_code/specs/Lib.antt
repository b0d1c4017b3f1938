-- Vocabulary of the contracts of reading two files.
pub mod inner
