-- Laws of the exported answers.
pub mod Numbers
