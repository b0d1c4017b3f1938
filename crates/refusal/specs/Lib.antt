-- Definitions of the refusals.
pub mod Refusals
