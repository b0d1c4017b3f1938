-- The cases proved against the definitions, and the order of events with one time.
pub mod Bench
pub mod Exchange
pub mod Bounces
pub mod AbsentFields
pub mod ClockMarks
pub mod LackingTies
