-- What the contracts of `output` cite: Words (the bytes that the programs' words have).
pub mod Words
