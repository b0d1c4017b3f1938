-- The states that paths reach without binding a variable, on the steps as a reader keeps them.
pub mod inner
