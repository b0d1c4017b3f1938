-- Vocabulary of inner contracts; nothing to be believed stands here.
pub mod Bytes
pub mod Marks
pub mod Walking
