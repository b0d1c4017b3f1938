-- Definitions of the analysis: rows, the analysis over files, its entry's contract, the demand on its rows.
pub mod Rows
pub mod Analysis
pub mod Call
pub mod inner
