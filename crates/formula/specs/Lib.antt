-- Definitions of the formula: syntax, encoding, correct formulas, absent states, reading, where a step begins.
pub mod Formula
pub mod Encode
pub mod Unbound
pub mod Correct
pub mod Absent
pub mod Read
pub mod Lookup
pub mod Located
pub mod inner
