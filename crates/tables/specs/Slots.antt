-- A store is cut into slots of one width (document 01, "Records").
use Rattle.std.specs.Prelude.{List, [], Bool, cond, ℕ, ◌+◌, ◌*◌, length, take, drop, ltb}
use Rattle.std.proofs.Math.Seq.{paste}

-- whether so many bytes are too many for the slot, or lie outside a store of that length
abbrev pub too_many : ℕ → ℕ → Bool
too_many width len = ltb width len

abbrev pub outside : ℕ → ℕ → ℕ → ℕ → Bool
outside width size slot len = ltb size (slot * width + len)

-- the store with all of some bytes from a place on
abbrev pub copied_of : List ℕ → ℕ → List ℕ → List ℕ
copied_of store start bytes = paste store start bytes (length bytes)

-- the store with the bytes at the front of the slot
unfoldable pub filled_of : ℕ → List ℕ → ℕ → List ℕ → List ℕ
filled_of width store slot bytes =
    cond (too_many width (length bytes)) store
    (cond (outside width (length store) slot (length bytes)) store
    (copied_of store (slot * width) bytes))

-- the first bytes of the slot
unfoldable pub part_of : ℕ → List ℕ → ℕ → ℕ → List ℕ
part_of width store slot len =
    cond (too_many width len) []
    (cond (outside width (length store) slot len) []
    (take len (drop (slot * width) store)))
