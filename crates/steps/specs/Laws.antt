-- Entries (the counted entries of a list), Credit (the bucket's credit). proofs/Sound.antt has that a sound state stays one, and that dues are numbers.
pub mod Entries
pub mod Credit
