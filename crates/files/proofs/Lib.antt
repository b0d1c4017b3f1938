-- What reading two files says of each of them.
pub mod Reading
