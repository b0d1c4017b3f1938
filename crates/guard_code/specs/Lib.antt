-- What the code makes of a guard's bytes: a twin of each definition of guards, rising and falling.
pub mod inner
