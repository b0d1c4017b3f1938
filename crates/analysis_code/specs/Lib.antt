-- Rows read back as runs, one start over rows already written, and what a call leaves.
pub mod inner
