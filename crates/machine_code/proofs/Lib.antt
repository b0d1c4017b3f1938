-- Laws of the code over bytes: on the encoding of a step it gives what the machine gives.
pub mod ClausesOnBytes
pub mod EventAlone
pub mod BytesAlone
pub mod FirstClause
pub mod FiringOnBytes
pub mod WalkOnBytes
pub mod GainingOnBytes
pub mod ExpiryOnBytes
pub mod StepsByNumber
pub mod SameMachine
pub mod Offsets
pub mod TableAlone
pub mod OneField
