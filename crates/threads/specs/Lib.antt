-- What the threads of a search are, over an accepted log and formula, and what one event does to them.
pub mod inner
