-- Laws of one step: examples, same configurations, binding, rising and falling, expiry, the machine.
pub mod Examples
pub mod AbsentExamples
pub mod Configurations
pub mod Binding
pub mod Gathering
pub mod Trend
pub mod Expiry
pub mod Machine
pub mod Along
pub mod Arrived
pub mod Carried
pub mod Walk
pub mod Agreement
pub mod Premises
pub mod AsBefore
pub mod Unmarked
pub mod Alone
