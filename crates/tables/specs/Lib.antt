-- Slots says where the bytes of a slot lie in a store; a table's reads and writes are those of lists (get_or, set).
pub mod Slots
