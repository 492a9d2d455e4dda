-- What the contracts of `script` cite: Hex (digits, and the text that they stand for), Patterns (16 digits that are a float's bits),
-- Beyond (what follows the bytes of a line that are kept), Lines (the lines of an input), Words (the words of a line, and the whole numbers among them),
-- Left (the words that are left), Asked (what a line asks by).
pub mod Hex
pub mod Patterns
pub mod Beyond
pub mod Lines
pub mod Words
pub mod Left
pub mod Asked
