-- Laws of the code over a guard's bytes: on the encoding of an expression it gives what the definitions give.
pub mod Tallies
pub mod GuardOnBytes
pub mod ReadingOnBytes
pub mod Deciding
pub mod TrendOnBytes
