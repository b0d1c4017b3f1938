-- Definitions of the search over files, its entry's contract, and the third demand on its answer.
pub mod Search
pub mod Call
pub mod inner
