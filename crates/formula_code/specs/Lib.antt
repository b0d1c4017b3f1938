-- What the reader of a formula answers (Answer, which its promise names), and what its parts keep and hand on along the way.
pub mod Answer
pub mod inner
