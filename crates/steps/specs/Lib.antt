-- Read in document 01's order of steps: Gate (steps 2 and 3), Chance (a draw against a probability), Burst (5), Mtu (6), Bucket (7), Due (9 to 11),
-- Decision, and Arrival (their chain, steps 2 to 11). Laws holds what is proved.
pub mod Gate
pub mod Chance
pub mod Burst
pub mod Mtu
pub mod Bucket
pub mod Due
pub mod Decision
pub mod Arrival
pub mod Laws
