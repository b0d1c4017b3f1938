-- The checks of a call in order; the analysis over accepted files meets the third demand, and no other answer does.
pub mod Checks
pub mod Ties
pub mod Row
pub mod Demand
pub mod Only
pub mod Last
pub mod AsBefore
pub mod Unmarked
pub mod Apart
pub mod Untied
pub mod Lacking
