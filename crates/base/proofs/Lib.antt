-- Laws on tests, lists, numbers and masks that several layers cite.
pub mod Tests
pub mod Lists
pub mod Same
pub mod Values
pub mod Masks
