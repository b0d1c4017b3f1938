-- What the reader of a command keeps and hands on.
pub mod inner
