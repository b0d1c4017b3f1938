-- What the search from one start keeps from event to event, and the checks of a call.
pub mod inner
