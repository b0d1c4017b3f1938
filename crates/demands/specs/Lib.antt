-- The three demands, stated over the public entries.
pub mod Demands
