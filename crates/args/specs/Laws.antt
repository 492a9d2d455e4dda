-- In order: Arguments (the first argument of a text and those behind it), Dashes (the `--` pairs), Keys (a key in two pieces), Early (arguments are refused
-- before the mode checks). On these stand, in proofs/, Turns (what is read first of a text), ReadsGathered (what the arguments one by one say of what was gathered),
-- LastYielded (the last value that is given), Hits (what is given are the values of the key).
pub mod Arguments
pub mod Dashes
pub mod Keys
pub mod Early
