-- In order: Tree (every node has the least slot below it), Growth (a tree with more leaves), Calls (what enters and leaves), Slots (the
-- bytes of a slot), Rows (the slots in use as a list of copies, up to order), Keeps (the relation to a plain queue), Keys (a slot's key changes), Creation,
-- Push, Release (each gives or carries on the relation), Stays (what a refused call leaves). On these stand, in proofs/, Agree (each call says what the plain
-- queue says), Runs (so does every list of calls), Refused (which refusals come) and Theorem.
pub mod Tree
pub mod Growth
pub mod Calls
pub mod Slots
pub mod Rows
pub mod Keeps
pub mod Keys
pub mod Creation
pub mod Push
pub mod Release
pub mod Stays
