-- The checks of a call in order; accepted files make a machine that keeps the laws, and the search over them meets the third demand.
pub mod Checks
pub mod Premises
pub mod Demand
pub mod AsBefore
pub mod Unmarked
pub mod Alone
