-- Read first the definitions, in this order: Arguments (the arguments of a text and the values of a key, as document 01 has them under "Option text"), Reads
-- (the arguments one by one), Left (what an iterator over them has left). Laws and proofs/ hold what is proved about them.
pub mod Arguments
pub mod Reads
pub mod Left
pub mod Laws
