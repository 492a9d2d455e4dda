-- Read Replies (what the answers of crates/device say, as answers of the plain machine), Runs (runs of the program, whose steps are the functions' own
-- contracts), Creations (what a creation ends in), then Claim (what is claimed). In proofs/, Claim has the claim, and Laws what leads there.
pub mod Replies
pub mod Runs
pub mod Creations
pub mod Claim
