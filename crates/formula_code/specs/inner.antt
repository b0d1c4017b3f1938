-- Vocabulary of inner contracts; nothing to be believed stands here.
pub mod Scan
pub mod Judge
