-- Laws that the search in lent words rests on.
pub mod Lawful
pub mod Arrays
pub mod Loop
pub mod Turns
pub mod Calls
