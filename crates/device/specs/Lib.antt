-- What each call gives for any device, memory and arguments. Read Parts (what a call hands back), Refusals (which refusal meets a call), Creation, Arrive, Release,
-- Others (rebind, teardown, report). That these calls are those of the plain machine is shown in crates/claim.
pub mod Parts
pub mod Refusals
pub mod Creation
pub mod Arrive
pub mod Release
pub mod Others
