-- Vocabulary of inner contracts; nothing to be believed stands here.
pub mod Setting
pub mod Event
pub mod Calls
