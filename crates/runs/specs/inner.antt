-- Vocabulary of inner contracts; nothing to be believed stands here.
pub mod Lists
pub mod Laws
pub mod Order
pub mod Search
pub mod Threads
pub mod Settle
pub mod Aged
pub mod Moved
pub mod Demand
