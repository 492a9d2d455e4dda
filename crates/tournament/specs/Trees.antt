-- The three tables of a tree, as a function is lent them.
use Rattle.std.specs.Prelude.{◌≡◌, ℕ}
use Rattle.tournament.specs.Growth.{Tree, tree}
use Rattle.tournament.specs.declared.tree.TreeMut.{TreeMut}

-- the tree that stands in them, of so many leaves
abbrev pub tree_in : ℕ → TreeMut → Tree
tree_in n t = tree n t.win.now t.dues.now t.seqs.now

-- the tables are still the ones that were lent
abbrev pub SameTables : TreeMut → TreeMut → Type 0
SameTables before after =
    (after.win.ghost_name ≡ before.win.ghost_name) × (after.dues.ghost_name ≡ before.dues.ghost_name) × (after.seqs.ghost_name ≡ before.seqs.ghost_name)
