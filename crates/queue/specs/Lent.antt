-- The lent tables as the functions take them: what finds the least copy and the copies themselves in a struct each, beside the free slots.
use Rattle.std.specs.Prelude.{◌≡◌, List, ℕ}
use Rattle.tournament.specs.declared.tree.Tree.{Tree}
use Rattle.tournament.specs.declared.tree.TreeMut.{TreeMut}
use Rattle.queue.specs.Tables.{Tables, tables, Rows, rows}
use Rattle.queue.specs.declared.rows.Rows.{Rows as SeenRows}
use Rattle.queue.specs.declared.rows.RowsMut.{RowsMut}

abbrev pub rows_in : RowsMut → Rows
rows_in r = rows r.arrivals.now r.routes.now r.copy_ids.now r.lengths.now r.store.now

abbrev pub rows_seen : SeenRows → Rows
rows_seen r = rows r.arrivals.now r.routes.now r.copy_ids.now r.lengths.now r.store.now

-- to a call by which copies enter, to one by which a copy leaves, and to one that only reads
abbrev pub entry_tables : TreeMut → List ℕ → RowsMut → Tables
entry_tables t free r = tables t.win.now free t.dues.now t.seqs.now r.arrivals.now r.routes.now r.copy_ids.now r.lengths.now r.store.now

abbrev pub exit_tables : TreeMut → List ℕ → SeenRows → Tables
exit_tables t free r = tables t.win.now free t.dues.now t.seqs.now r.arrivals.now r.routes.now r.copy_ids.now r.lengths.now r.store.now

abbrev pub seen_tables : Tree → List ℕ → SeenRows → Tables
seen_tables t free r = tables t.win.now free t.dues.now t.seqs.now r.arrivals.now r.routes.now r.copy_ids.now r.lengths.now r.store.now

-- the tables are still the ones that were lent
abbrev pub SameRows : RowsMut → RowsMut → Type 0
SameRows before after =
    (after.arrivals.ghost_name ≡ before.arrivals.ghost_name) × (after.routes.ghost_name ≡ before.routes.ghost_name) × (after.copy_ids.ghost_name ≡ before.copy_ids.ghost_name)
    × (after.lengths.ghost_name ≡ before.lengths.ghost_name) × (after.store.ghost_name ≡ before.store.ghost_name)
