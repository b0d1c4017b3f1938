-- What the code computes on any bytes: a twin of each definition of the machine; what an event alone says of a step.
pub mod inner
