-- Read Order (which of two copies leaves first) and Copies (a held copy, the least of a list, a list without a copy, and which copy leaves at an instant). The
-- plain queue (crates/queue_laws) and the plain machine (crates/machine) are made of these. Laws and
-- proofs/Due.antt hold what is proved of them.
pub mod Order
pub mod Copies
pub mod Laws
