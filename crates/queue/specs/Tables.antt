-- What a host lends: eight tables with an entry for each slot, and the store.
use Rattle.std.specs.Prelude.{List, ℕ, Float, length, set}
use Rattle.tables.specs.Slots.{filled_of}
use Rattle.tournament.specs.Growth.{Tree, tree}

-- `win`, `dues` and `seqs` are the tournament's; `free` has the slots that copies have left; the others have the rest of each copy
pub record Tables : Type 0 where
  pub win : List ℕ
  pub free : List ℕ
  pub dues : List Float
  pub seqs : List ℕ
  pub arrivals : List Float
  pub routes : List ℕ
  pub copy_ids : List ℕ
  pub lengths : List ℕ
  pub store : List ℕ

abbrev pub tables : List ℕ → List ℕ → List Float → List ℕ → List Float → List ℕ → List ℕ → List ℕ → List ℕ → Tables
tables w f d s a r c n b = record { win = w; free = f; dues = d; seqs = s; arrivals = a; routes = r; copy_ids = c; lengths = n; store = b }

-- what a call gives, and the tables that it leaves
pub record After (A : Type 0) : Type 0 where
  pub gives : A
  pub memory : Tables

abbrev pub after : {A : Type 0} → A → Tables → After A
after x t = record { gives = x; memory = t }

-- the tables of what a slot has beside its key
pub record Rows : Type 0 where
  pub arrivals : List Float
  pub routes : List ℕ
  pub copy_ids : List ℕ
  pub lengths : List ℕ
  pub store : List ℕ

abbrev pub rows : List Float → List ℕ → List ℕ → List ℕ → List ℕ → Rows
rows a r c n b = record { arrivals = a; routes = r; copy_ids = c; lengths = n; store = b }

abbrev pub rows_of : Tables → Rows
rows_of t = rows t.arrivals t.routes t.copy_ids t.lengths t.store

-- the slot has this arrival, route, copy id, length and bytes
unfoldable pub written_of : ℕ → Rows → ℕ → Float → ℕ → ℕ → List ℕ → Rows
written_of width r slot arrival route id bytes =
    rows
    (set r.arrivals slot arrival)
    (set r.routes slot route)
    (set r.copy_ids slot id)
    (set r.lengths slot (length bytes))
    (filled_of width r.store slot bytes)

-- the tables of a tournament of so many leaves
abbrev pub tree_of : ℕ → Tables → Tree
tree_of leaves t = tree leaves t.win t.dues t.seqs

-- the tables, put together from their parts
abbrev pub joined : Tree → List ℕ → Rows → Tables
joined g free r = tables g.win free g.dues g.seqs r.arrivals r.routes r.copy_ids r.lengths r.store
