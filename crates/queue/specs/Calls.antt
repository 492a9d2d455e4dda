-- What each call gives for any state, memory and arguments: the state that comes back with the answer, and the tables. A refused call hands back the state
-- that it was given and leaves the tables as they were.
use Rattle.std.specs.Prelude.{Bool, true, cond, not, ◌&&◌, List, ℕ, ◌+◌, ◌-◌, max, leb, eqb, Float, get_or, length, set, Option, None, Some, Result, Ok, Err}
use Rattle.std.specs.Float.Ieee.{le}
use Rattle.std.specs.Result.{is_ok}
use Rattle.numbers.specs.Checks.{unless}
use Rattle.numbers.specs.Limits.{max_capacity, is_width_of}
use Rattle.numbers.specs.Whole.{whole}
use Rattle.numbers.specs.declared.refusal.Refusal.{Refusal}
use Rattle.numbers.specs.declared.refusal.Refusal.TheVariants as refusal
use Rattle.tables.specs.Slots.{part_of}
use Rattle.tournament.specs.Calls.{fits_of, enter_of, leave_of, least_of}
use Rattle.tournament.specs.Growth.{Tree}
use Rattle.queue.specs.Tables.{Tables, After, after, Rows, rows_of, written_of, tree_of, joined}
use Rattle.queue.specs.Refusals.{memory_of, push_refusal, release_refusal, state_refusal, due_refusal}
use Rattle.queue.specs.declared.queue.ImpairQueue.{ImpairQueue}
use Rattle.queue.specs.declared.answers.Entered.{Entered}
use Rattle.queue.specs.declared.answers.Queued.{Queued}

-- the state that a call hands back, with its answer
abbrev pub Handed : Type 0 → Type 0
Handed A = ImpairQueue × Result A Refusal

-- ---- creation and drain

-- how many bytes a slot has where a creation was refused (document 02, "One")
abbrev pub default_width : ℕ
default_width = 2048

-- nothing is held, and no slot was used
abbrev pub fresh : ℕ → ℕ → ℕ → ImpairQueue
fresh cap width seq = record { cap = cap; width = width; held = 0; next_seq = seq; leaves = 0; opened = 0 }

-- an empty queue of capacity 1 and that width
abbrev pub smallest_queue : ImpairQueue
smallest_queue = fresh 1 default_width 0

-- a refused creation gives it
abbrev pub not_created : Refusal → Handed (Unit {0})
not_created e = (smallest_queue, Err e)

-- of a capacity and a slot width: a capacity that is 0 or too large is refused by 24, a width out of range by 30, memory that is too short by 23
unfoldable pub create_of : ℕ → ℕ → Tables → Handed (Unit {0})
create_of cap width t =
    cond (not (leb 1 cap && leb cap max_capacity)) (not_created refusal.Capacity)
    (cond (not (is_width_of width)) (not_created refusal.Width)
    (cond (not (memory_of width cap t)) (not_created refusal.Memory)
    (fresh cap width 0, Ok tt)))

-- all leave, and every slot is as if never used
unfoldable pub drain_of : ImpairQueue → Handed ℕ
drain_of q = unless (state_refusal q true) (fresh q.cap q.width q.next_seq, Ok q.held) (λ e. (q, Err e))

-- ---- push

-- the slot that the next copy takes: the last that a copy left, or the first that was never used
unfoldable pub next_slot : ImpairQueue → List ℕ → ℕ
next_slot q free = cond (eqb q.held q.opened) q.opened (get_or free (q.opened - q.held - 1) 0)

-- one copy more, in a tournament of so many leaves
abbrev pub one_more : ImpairQueue → ℕ → ImpairQueue
one_more q leaves = record { cap = q.cap; width = q.width; held = q.held + 1; next_seq = q.next_seq + 1; leaves = leaves; opened = max q.opened (q.held + 1) }

abbrev pub not_pushed : ImpairQueue → Refusal → Handed Entered
not_pushed q e = (q, Err e)

-- the state after one copy, whether it entered, and the tables
abbrev pub AfterCopy : Type 0
AfterCopy = After (Handed (Unit {0}))

-- a copy stands in the tables with the next seq
unfoldable pub entered_of : ImpairQueue → Tree → List ℕ → Rows → AfterCopy
entered_of q g free r = after (one_more q g.leaves, Ok tt) (joined g free r)

-- one copy enters the next slot; 26 where that is out of range, as only altered memory makes it, and nothing is written
unfoldable pub enter_copy_of : ImpairQueue → Tables → Float → Float → ℕ → ℕ → List ℕ → AfterCopy
enter_copy_of q t due arrival route id bytes =
    cond (fits_of q.cap q.leaves (next_slot q t.free))
    (entered_of q (enter_of q.cap (next_slot q t.free) due q.next_seq (tree_of q.leaves t)) t.free (written_of q.width (rows_of t) (next_slot q t.free) arrival route id bytes))
    (after (q, Err refusal.Keeping) t)

-- the answer after the last copy, of so many. Where that did not enter, state and tables are as far as the copies before it came
unfoldable pub told_by : Result (Unit {0}) Refusal → ℕ → ℕ → Result Entered Refusal
told_by (Ok u) seq copies = Ok (record { seq = seq; copies = copies })
told_by (Err e) seq copies = Err e

abbrev pub told_of : Handed (Unit {0}) → ℕ → ℕ → Handed Entered
told_of h seq copies = (h.0, told_by h.1 seq copies)

abbrev pub told : ℕ → ℕ → AfterCopy → After (Handed Entered)
told seq copies o = after (told_of o.gives seq copies) o.memory

-- whether a second copy enters behind the first: the packet is duplicated, and the queue is not full by then
abbrev pub again_of : Bool → Handed (Unit {0}) → Bool
again_of duplicated h = is_ok h.1 && duplicated && not (eqb h.0.held h.0.cap)

-- what follows the first copy: of a packet that is duplicated a second one, with copy id 1 and the same due
unfoldable pub second_of : ℕ → Float → Float → ℕ → Bool → List ℕ → AfterCopy → After (Handed Entered)
second_of seq due arrival route duplicated bytes o =
    cond (again_of duplicated o.gives) (told seq 2 (enter_copy_of o.gives.0 o.memory due arrival route 1 bytes)) (told seq 1 o)

unfoldable pub enter_copies_of : ImpairQueue → Tables → Float → Float → ℕ → ℕ → Bool → List ℕ → After (Handed Entered)
enter_copies_of q t due arrival route id duplicated bytes =
    second_of q.next_seq due arrival route duplicated bytes (enter_copy_of q t due arrival route id bytes)

-- judged once, on the state handed in
unfoldable pub push_of : ImpairQueue → Tables → Float → Float → ℕ → ℕ → Bool → List ℕ → After (Handed Entered)
push_of q t due arrival route id duplicated bytes =
    unless (push_refusal q (memory_of q.width q.cap t) due arrival (length bytes))
    (enter_copies_of q t due arrival route id duplicated bytes)
    (λ e. after (not_pushed q e) t)

-- ---- release

-- what a slot holds
abbrev pub queued_of : List Float → List ℕ → List Float → List ℕ → List ℕ → List ℕ → ℕ → Queued
queued_of dues seqs arrivals routes ids lengths slot =
    record {
      due_ms = get_or dues slot (whole 0);
      seq = get_or seqs slot 0;
      arrival_ms = get_or arrivals slot (whole 0);
      route = get_or routes slot 0;
      copy_id = get_or ids slot 0;
      length = get_or lengths slot 0;
      slot = slot;
    }

-- one copy less
abbrev pub one_less : ImpairQueue → ImpairQueue
one_less q = record { cap = q.cap; width = q.width; held = q.held - 1; next_seq = q.next_seq; leaves = q.leaves; opened = q.opened }

abbrev pub not_released : ImpairQueue → Result (Option Queued) Refusal → Tables → After (Handed (Option Queued))
not_released q a t = after (q, a) t

-- the copy leaves its slot, which is the next to be used
unfoldable pub left_of : ImpairQueue → Tables → ℕ → After (Handed (Option Queued))
left_of q t slot =
    after (one_less q, Ok (Some (queued_of t.dues t.seqs t.arrivals t.routes t.copy_ids t.lengths slot)))
    (joined (leave_of slot (tree_of q.leaves t)) (set t.free (q.opened - q.held) slot) (rows_of t))

-- the copy at the root is the least; it leaves if its due has come
unfoldable pub due_of : ImpairQueue → Tables → Float → ℕ → After (Handed (Option Queued))
due_of q t now root =
    cond (leb q.leaves root) (not_released q (Err refusal.Keeping) t)
    (cond (le (get_or t.dues root (whole 0)) now) (left_of q t root) (not_released q (Ok None) t))

unfoldable pub release_of : ImpairQueue → Tables → Float → After (Handed (Option Queued))
release_of q t now =
    unless (release_refusal q (memory_of q.width q.cap t) now)
    (cond (eqb q.held 0) (not_released q (Ok None) t) (due_of q t now (least_of t.win q.leaves)))
    (λ e. not_released q (Err e) t)

-- ---- questions

unfoldable pub due_at : ImpairQueue → List Float → ℕ → Result (Option Float) Refusal
due_at q dues root = cond (leb q.leaves root) (Err refusal.Keeping) (Ok (Some (get_or dues root (whole 0))))

unfoldable pub next_due_of : ImpairQueue → List ℕ → List Float → Result (Option Float) Refusal
next_due_of q win dues =
    unless (due_refusal q (length win) (length dues))
    (cond (eqb q.held 0) (Ok None) (due_at q dues (least_of win q.leaves)))
    (λ e. Err e)

abbrev pub len_of : ImpairQueue → ℕ
len_of q = q.held

abbrev pub is_empty_of : ImpairQueue → Bool
is_empty_of q = eqb q.held 0

-- the bytes of a released copy, as a part of a store of slots of that width
abbrev pub payload_of : ℕ → List ℕ → ℕ → ℕ → List ℕ
payload_of width store slot len = part_of width store slot len
