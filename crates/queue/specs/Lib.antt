-- Read Tables (what a host lends), Refusals (which refusal meets a call), Calls (what each call gives for any state, memory and arguments), Lent (the lent tables as
-- the functions take them). That these calls are those of a plain list of held copies is shown in crates/queue_laws.
pub mod Tables
pub mod Refusals
pub mod Calls
pub mod Lent
