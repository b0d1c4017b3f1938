-- Definitions of the two files of a call.
pub mod Files
