-- What the reader of an expression keeps and hands on.
pub mod inner
