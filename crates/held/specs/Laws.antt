-- In order: Order (the keys), Least (the least copy of a list, and what stands in one). What is proved of the copy that leaves stands in proofs/Due.antt.
pub mod Order
pub mod Least
