-- Definitions of the exported functions.
pub mod Exports
