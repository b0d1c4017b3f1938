-- Definitions of runs over an abstract machine: their order, waiting, the answer, the third demand.
pub mod Lists
pub mod Machine
pub mod Run
pub mod Order
pub mod Waiting
pub mod Answer
pub mod Demand
pub mod inner
