-- Definitions of one step of the semantics: configurations, guards, firing, expiry, and the machine they make.
pub mod Configuration
pub mod Guard
pub mod Firing
pub mod Expiry
pub mod Machine
pub mod inner
