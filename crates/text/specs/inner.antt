-- Vocabulary of inner contracts; nothing to be believed stands here.
pub mod Adds
pub mod Grows
