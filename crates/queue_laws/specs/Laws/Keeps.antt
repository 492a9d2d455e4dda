-- The relation between lent tables with a state, and a plain queue: the slots in use hold the copies of its list, in any order.
use Rattle.std.specs.Prelude.{◌≡◌, refl, ◌⊎◌, true, false, ℕ, ◌-◌, ◌*◌, ◌<◌, ◌≤◌, length, get_or}
use Rattle.std.proofs.Common.{⊎_elim}
use Rattle.std.specs.Float.{inf}
use Rattle.std.specs.Float.Ieee.{is_nan}
use Rattle.numbers.specs.Limits.{max_capacity, is_width_of}
use Rattle.numbers.specs.Whole.{whole}
use Rattle.held.specs.Copies.{Copy, copy}
use Rattle.held.specs.Laws.Order.{Num}
use Rattle.tables.specs.Slots.{part_of}
use Rattle.tournament.specs.Nodes.{less_of}
use Rattle.tournament.specs.Growth.{free_due, free_seq}
use Rattle.queue.specs.Tables.{Tables}
use Rattle.queue.specs.declared.queue.ImpairQueue.{ImpairQueue}
use Rattle.queue_laws.specs.Held.{Plain}
use Rattle.queue_laws.specs.Laws.Tree.{Good}
use Rattle.queue_laws.specs.Laws.Rows.{Perm, seq_limit, view}

-- what a slot of that width holds, with its bytes
abbrev pub row_of : ℕ → Tables → ℕ → Copy
row_of width t s =
    copy (get_or t.dues s (whole 0)) (get_or t.seqs s 0) (get_or t.arrivals s (whole 0)) (get_or t.routes s 0) (get_or t.copy_ids s 0)
    (get_or t.lengths s 0) (part_of width t.store s (get_or t.lengths s 0))

-- a slot has the key of a free one, or the key of a copy that has entered
abbrev pub Slot : Tables → ℕ → ℕ → Type 0
Slot t next s =
    ((get_or t.dues s (whole 0) ≡ free_due) × (get_or t.seqs s 0 ≡ free_seq))
    ⊎ (Num (get_or t.dues s (whole 0)) × (get_or t.seqs s 0 < next))

-- every table has an entry for each slot, and the store so many bytes
pub record Long (width cap : ℕ) (t : Tables) : Type 0 where
  pub win : cap ≤ length t.win
  pub free : cap ≤ length t.free
  pub dues : cap ≤ length t.dues
  pub seqs : cap ≤ length t.seqs
  pub arrivals : cap ≤ length t.arrivals
  pub routes : cap ≤ length t.routes
  pub copy_ids : cap ≤ length t.copy_ids
  pub lengths : cap ≤ length t.lengths
  pub store : cap * width ≤ length t.store

pub record Keeps (t : Tables) (q : ImpairQueue) (p : Plain) : Type 0 where
  pub pos : 0 < q.cap
  pub small : q.cap ≤ max_capacity
  pub wide : is_width_of q.width ≡ true
  pub long : Long q.width q.cap t
  pub next_in : q.next_seq ≤ seq_limit
  pub held_in : q.held ≤ q.opened
  pub opened_in : q.opened ≤ q.leaves
  pub leaves_in : q.leaves ≤ q.cap
  -- every node has the least slot below it
  pub good : (i : ℕ) → 0 < i → i < q.leaves → Good (less_of t.dues t.seqs) q.leaves t.win i
  pub slots : (s : ℕ) → s < q.leaves → Slot t q.next_seq s
  -- the slots from `opened` on were never used
  pub unused : (s : ℕ) → q.opened ≤ s → s < q.leaves → seq_limit ≤ get_or t.seqs s 0
  pub uniq : (s x : ℕ) → s < q.leaves → x < q.leaves → get_or t.seqs s 0 < seq_limit → get_or t.seqs x 0 ≡ get_or t.seqs s 0 → x ≡ s
  -- the slots that copies have left, each once
  pub free_low : (j : ℕ) → j < q.opened - q.held → get_or t.free j 0 < q.opened
  pub seqs_free : (j : ℕ) → j < q.opened - q.held → seq_limit ≤ get_or t.seqs (get_or t.free j 0) 0
  pub apart : (i j : ℕ) → i < q.opened - q.held → j < q.opened - q.held → get_or t.free i 0 ≡ get_or t.free j 0 → i ≡ j
  pub count : q.held ≡ length p.held
  pub same_next : q.next_seq ≡ p.next_seq
  pub same_cap : q.cap ≡ p.cap
  pub same_width : q.width ≡ p.width
  pub same : Perm p.held (view (row_of q.width t) q.leaves)

pub num_inf : Num (inf false)
unfolding is_nan
num_inf = refl

-- every slot's due is a number
pub nums : (t : Tables) (q : ImpairQueue) (p : Plain) → Keeps t q p → (s : ℕ) → s < q.leaves → Num (get_or t.dues s (whole 0))
nums t q p k s h = ⊎_elim (λ w. rw w.0 num_inf) (λ w. w.0) (k.slots s h)
