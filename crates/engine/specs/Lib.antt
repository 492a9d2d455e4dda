-- Read first the definitions: Engine (how an engine starts, and what its windows say), Counts (step 1, and how each decision is counted), Decide
-- (the whole chain of document 01's eleven steps; steps 2 to 11 stand in crates/steps), Changes (a rebind, an overflow), Refusals (29, 21, 22, 25, in this
-- order), Calls (what each call gives for any engine and arguments). Lines has document 01's starred lines. Laws holds what is proved.
pub mod Engine
pub mod Counts
pub mod Decide
pub mod Changes
pub mod Refusals
pub mod Calls
pub mod Lines
pub mod Laws
