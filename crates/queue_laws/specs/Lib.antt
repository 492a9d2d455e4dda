-- Read Held (the plain queue: a list of held copies, over crates/held) and Replies (what the answers of crates/queue say, as its replies). Lines has small runs of the
-- plain queue. Laws holds what is proved of the definitions of crates/tournament and crates/queue, and proofs/ what is proved of the plain queue itself. Theorem
-- has the runs of the functions of crates/queue, by their own contracts, and proofs/Theorem.antt says it of them.
pub mod Held
pub mod Replies
pub mod Lines
pub mod Laws
pub mod Theorem
