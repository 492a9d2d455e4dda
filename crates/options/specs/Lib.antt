-- Read first the definitions, in the source's order of checks: Config (the settings of a text without arguments), Modes, Scalars, Directions, Parse (the
-- whole text). Lines has document 01's starred lines, Slips what the mode checks say of a text, and Laws what is proved.
pub mod Config
pub mod Modes
pub mod Scalars
pub mod Directions
pub mod Parse
pub mod Lines
pub mod Slips
pub mod Laws
