-- Vocabulary of inner contracts; nothing to be believed stands here.
pub mod Walk
pub mod Valid
pub mod Along
pub mod Arrived
