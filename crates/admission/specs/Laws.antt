-- Bounds: what each count can be, whatever the state and the memory were.
pub mod Bounds
