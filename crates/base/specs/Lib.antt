-- Definitions that every layer uses: lists, values in bytes, masks.
pub mod Value
pub mod Lists
pub mod Mask
